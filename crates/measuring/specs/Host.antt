-- What `visor_drift` leaves to the host, over the plan of the request that its words make: docs/SPECIFICATION.md, sections 2 and 11.
-- Assumes nothing.
use Rattle.std.specs.Prelude.{◌≡◌, cond, ◌&&◌, List, [], ◌∷◌, ◌++◌, ℕ, ◌*◌, ◌/◌, ◌<◌, eqb, length, take, drop, Result, Ok, Err, Option, Some, None}
use Rattle.signed.specs.Cast.{word}
use Rattle.plan.specs.declared.types.Entry.{Entry}
use Rattle.plan.specs.Request.{Request}
use Rattle.plan.specs.Demand as demand
use Rattle.plan.specs.Demand.{Drift, drift_of, behind_of, ahead_of, apt}
use Rattle.planner.specs.Planner.{Planner}
use Rattle.planner.specs.Coming.{coming}
use Rattle.request.specs.Host.{host_request}
use Rattle.small.specs.Small.{AllSmall}
use Rattle.ruler.specs.declared.types.Ruler.{Ruler}
use Rattle.ruler.specs.declared.types.Place.{Place}
use Rattle.ruler.specs.declared.types.Begun.{Begun}
use Rattle.ruler.specs.declared.types.Over.{Over}
use Rattle.ruler.specs.Drifts.{drifts_of, set_up, drifts_from, place_of, SoundPlace}

-- a rectangle's words: its first line, its strip, its distance, and the limits behind and ahead
abbrev pub begun_words : Drift → demand.Begun → List ℕ
begun_words d b = b.line ∷ word b.strip ∷ word b.distance ∷ word (behind_of d) ∷ word (ahead_of d.h b.strip) ∷ []

unfoldable pub drift_words : Drift → List demand.Begun → List ℕ
drift_words d [] = []
drift_words d (b ∷ bs) = begun_words d b ++ drift_words d bs

-- the answer, and the words of drift and told as the call leaves them
pub record Drifted : Type 0 where
  pub answer : ℕ
  pub drift : List ℕ
  pub told : List ℕ

abbrev pub drifted : ℕ → List ℕ → List ℕ → Drifted
drifted answer drift told = record { answer = answer; drift = drift; told = told }

-- the rectangles that stand in the buffer
abbrev pub shown_of : Request → (drift : List ℕ) → List demand.Begun
shown_of q drift = take (length drift / 5) (drifts_of q)

-- as many rectangles as there is room for; whether demand 3 is promised of them
unfoldable pub measured_of : Request → (drift : List ℕ) → Drifted
measured_of q drift =
    drifted 0 (drift_words (drift_of q) (shown_of q drift) ++ drop (5 * length (shown_of q drift)) drift)
    (length (shown_of q drift) ∷ cond (apt q && set_up q) 1 0 ∷ [])

-- that, or 1 and nothing changed where request or told has another number of words
unfoldable pub host_drift : (object request drift told : List ℕ) → Drifted
host_drift object request drift told =
    cond (eqb (length request) 7 && eqb (length told) 2) (measured_of (host_request object request) drift) (drifted 1 drift told)

-- ---- what the functions promise

-- a planner with fewer entries to come
pub record Rest (p q : Planner) : Type 0 where
  pub small : AllSmall (coming q).entries
  pub fewer : length (coming q).entries < length (coming p).entries

pub record Next (r : Ruler) (place : Place) (p : Planner) (b : Begun) (s : Place) (q : Planner) : Type 0 where
  pub is : drifts_from r place (coming p).entries ≡ b ∷ drifts_from r s (coming q).entries
  pub next : SoundPlace r s
  pub rest : Rest p q

-- what was measured of an entry, and the planner after it
abbrev pub MeasuredIs : Ruler → Place → Planner → Option (Begun × Place) → Planner → Type 0
MeasuredIs r place p (Some b) q = Next r place p b.0 b.1 q
MeasuredIs r place p None q = (drifts_from r place (coming p).entries ≡ drifts_from r place (coming q).entries) × Rest p q

abbrev pub MovedIs : Ruler → Place → Planner → Result (Option (Begun × Place) × Planner) Over → Type 0
MovedIs r place p (Ok m) = MeasuredIs r place p m.0 m.1
MovedIs r place p (Err o) = drifts_from r place (coming p).entries ≡ []

abbrev pub fitting : Ruler → List Entry → (drift : List ℕ) → List demand.Begun
fitting r es drift = take (length drift / 5) (drifts_from r (place_of r) es)

pub record FilledIs (r : Ruler) (es : List Entry) (drift out : List ℕ) (n : ℕ) : Type 0 where
  pub count : n ≡ length (fitting r es drift)
  pub buffer : out ≡ drift_words r (fitting r es drift) ++ drop (5 * length (fitting r es drift)) drift
