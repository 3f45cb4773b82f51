-- One step of the planner, and what of its plan is then still to be measured.
-- Assumes nothing.
use Rattle.std.specs.Prelude.{Result, Ok, Err, Option, Some, None, MatchResult, IsErrAnd, is_ok, false}
use Rattle.std.proofs.Common.{◌≡◌, refl, sym, ap, subst, ◌∙◌, List, [], drop}
use Rattle.std.proofs.lemmas.Bool.{false≢true}
use Rattle.plan.specs.declared.types.Entry.{Entry}
use Rattle.plan.specs.Steps.{Coming}
use Rattle.plan.specs.Demand.{aheads}
use Rattle.planner.specs.Planner.{Planner}
use Rattle.planner.specs.declared.types.Stop.{Stop}
use Rattle.planner.specs.declared.types.Step.{Step}
use Rattle.planner.specs.Coming.{coming, Given, StepGives}
use Rattle.planner.proofs.StepLaws.{gave_entry, gave_rest, gave_fewer, gave_end}
use Rattle.small.specs.Small.{Small, AllSmall}
use Rattle.ruler.specs.declared.types.Ruler.{Ruler}
use Rattle.ruler.specs.declared.types.Place.{Place}
use Rattle.ruler.specs.declared.types.Begun.{Begun}
use Rattle.ruler.specs.declared.types.Over.{Over}
use Rattle.ruler.specs.Drifts.{drifts_from, Taken, taken_of, TakenIs}
use Rattle.measuring.specs.Host.{Rest, MeasuredIs}

module _ (p : Planner) (s : Step) (i : StepGives p s) where
  pub entry_small : (e : Entry) → s.given ≡ Ok e → AllSmall (coming p).entries → Small e
  entry_small e g a = (subst AllSmall (gave_entry p s i e g) a).0

  rest_is : (e : Entry) → s.given ≡ Ok e → AllSmall (coming p).entries → Rest p s.planner
  rest_is e g a =
      record {
        small = subst AllSmall (sym (ap (λ (c : Coming). c.entries) (gave_rest p s i e g))) (subst AllSmall (gave_entry p s i e g) a).1;
        fewer = gave_fewer p s i e g;
      }

  module _ (r : Ruler) (place : Place) where
    entry_is : (e : Entry) → s.given ≡ Ok e → (t : Taken) → TakenIs r place e t → drifts_from r place (coming p).entries ≡ taken_of r place t (coming s.planner).entries
    entry_is e g t h =
        ap (λ (es : List Entry). drifts_from r place es) (gave_entry p s i e g)
        ∙ h.is (drop 1 (coming p).entries)
        ∙ ap (λ (c : Coming). taken_of r place t c.entries) (sym (gave_rest p s i e g))

    pub entry_measured : (e : Entry) → s.given ≡ Ok e → AllSmall (coming p).entries → (o : Option (Begun × Place)) → TakenIs r place e (Ok o) → MeasuredIs r place p o s.planner
    entry_measured e g a (Some b) h = record { is = entry_is e g (Ok (Some b)) h; next = h.sound; rest = rest_is e g a }
    entry_measured e g a None h = (entry_is e g (Ok None) h, rest_is e g a)

    pub entry_over : (e : Entry) → s.given ≡ Ok e → (o : Over) → TakenIs r place e (Err o) → drifts_from r place (coming p).entries ≡ []
    entry_over e g o h = entry_is e g (Err o) h

    end_over : (x : Stop) → s.given ≡ Err x → drifts_from r place (coming p).entries ≡ []
    unfolding aheads
    end_over x k = ap (λ (es : List Entry). drifts_from r place es) (gave_end p s i x k).0

    -- no entry is to come
    pub none_over : ((e : Entry) → s.given ≡ Ok e → ⊥) → drifts_from r place (coming p).entries ≡ []
    none_over n = by s.given refl
      where
        by : (g : Given) → s.given ≡ g → drifts_from r place (coming p).entries ≡ []
        by (Ok e) k = absurd (n e k)
        by (Err x) k = end_over x k

-- where each end is told as `Over`: the entry is the step's, and none is given for an end
pub entry_given : (g : Given) (r : Result Entry Over) (P : Stop → Over → Type 0) (e : Entry) → MatchResult g (λ x. r ≡ Ok x) (λ x. IsErrAnd r (P x)) → r ≡ Ok e → g ≡ Ok e
entry_given (Ok x) r P e h k =
    let i : ◌≡◌ {A = Result Entry Over} (Ok x) (Ok e) = sym h ∙ k in
    let same : x ≡ e = cc in
    ap Ok same
entry_given (Err x) r P e h k = absurd (rw k at h)

pub not_given : (g : Given) → is_ok g ≡ false → (e : Entry) → g ≡ Ok e → ⊥
not_given g n e k = false≢true (sym n ∙ ap is_ok k)
