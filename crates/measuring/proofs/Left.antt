-- What the call leaves, by what measures the plan; the request that the code keeps has the same numbers as the host's words.
-- Assumes nothing.
use Rattle.std.proofs.Common.{◌≡◌, refl, sym, ap, ◌∙◌, Bool, true, false, cond, ◌&&◌, List, [], ◌∷◌, ◌++◌, ⊎_elim, ℕ, ◌*◌, ◌/◌, eqb, length, take, drop}
use Rattle.std.proofs.Math.Seq.{take-nil}
use borrow.Author.Tests.{eq-eqb, ne_eqb}
use Rattle.measures.specs.Range.{counted}
use Rattle.plan.specs.Request.{Request}
use Rattle.plan.specs.Whole.{checked_out, plan_with, plan_of}
use Rattle.plan.specs.Demand.{Drift, drift_of, strips_of, aheads, apt}
use Rattle.request.specs.Host.{host_request, RefusedAt, Alike}
use Rattle.ruler.specs.declared.types.Ruler.{Ruler}
use Rattle.ruler.specs.Drifts.{drifts_of, set_up, apt_in, place_of, drifts_from, RulerIs}
use Rattle.measuring.specs.Host.{drift_words, drifted, shown_of, measured_of, host_drift, FilledIs}

-- ---- nothing to measure

no_flag : (t u : Bool) → u ≡ false → ◌≡◌ {A = ℕ} (cond (t && u) 1 0) 0
no_flag true u e = rw e
no_flag false u e = refl

pub nothing_left : (q : Request) (drift : List ℕ) → set_up q ≡ false → drifts_of q ≡ [] → drifted 0 drift (0 ∷ 0 ∷ []) ≡ measured_of q drift
unfolding measured_of drift_words
nothing_left q drift s e = rw (e, take-nil (length drift / 5), no_flag (apt q) (set_up q) s)

-- ---- a scaled plan

module _ (q : Request) (r : Ruler) (h : RulerIs q r) where
  drifts_are : drifts_from r (place_of r) (plan_of q).entries ≡ drifts_of q
  unfolding drifts_of
  drifts_are = rw (eq-eqb q.opcode 9 h.opcode, counted h.sound.count) (ap (λ (d : Drift). aheads d 0 (strips_of d) (plan_of q).entries) h.is)

  apt_is : apt_in r ≡ apt q
  unfolding apt
  apt_is = rw (eq-eqb q.opcode 9 h.opcode, sym h.is)

  pub measured_left : (drift out : List ℕ) (n : ℕ) (b : ℕ) → FilledIs r (plan_of q).entries drift out n → b ≡ cond (apt_in r) 1 0 → drifted 0 out (n ∷ b ∷ []) ≡ measured_of q drift
  unfolding measured_of
  measured_left drift out n b f e =
      let bs = ap (take (length drift / 5)) drifts_are in
      let words : out ≡ drift_words (drift_of q) (shown_of q drift) ++ drop (5 * length (shown_of q drift)) drift =
      f.buffer ∙ (λ i. drift_words (h.is i) (bs i) ++ drop (5 * length (bs i)) drift) in
      let count : n ≡ length (shown_of q drift) = f.count ∙ ap length bs in
      let flag : b ≡ cond (apt q && set_up q) 1 0 = e ∙ rw (h.set, apt_is) (and_true (apt q)) in
      λ i. drifted 0 (words i) (count i ∷ flag i ∷ [])
    where
      and_true : (t : Bool) → ◌≡◌ {A = ℕ} (cond t 1 0) (cond (t && true) 1 0)
      and_true true = refl
      and_true false = refl

-- ---- the host's words

refused_set : (q : Request) → RefusedAt q → set_up q ≡ false
unfolding set_up
refused_set q h = rw h.is

refused_drifts : (q : Request) → RefusedAt q → drifts_of q ≡ []
unfolding drifts_of plan_of plan_with checked_out aheads
refused_drifts q h = rw h.is (by (eqb q.opcode 9))
  where
    by : (t : Bool) → cond t (aheads (drift_of q) 0 (strips_of (drift_of q)) []) [] ≡ []
    by true = refl
    by false = refl

kept_left : (q q' : Request) (drift : List ℕ) → Alike q q' → measured_of q drift ≡ measured_of q' drift
kept_left q q' drift =
    ⊎_elim
    (λ e. ap (λ (x : Request). measured_of x drift) e)
    (λ h. sym (nothing_left q drift (refused_set q h.0) (refused_drifts q h.0)) ∙ nothing_left q' drift (refused_set q' h.1) (refused_drifts q' h.1))

module _ (object request drift told : List ℕ) where
  pub odd_request : (length request ≡ 7 → ⊥) → drifted 1 drift told ≡ host_drift object request drift told
  unfolding host_drift
  odd_request n = rw (ne_eqb (length request) 7 n)

  pub odd_told : length request ≡ 7 → (length told ≡ 2 → ⊥) → drifted 1 drift told ≡ host_drift object request drift told
  unfolding host_drift
  odd_told q n = rw (eq-eqb (length request) 7 q, ne_eqb (length told) 2 n)

  pub measured_host : (x : Request) → Alike x (host_request object request) → (drift' told' : List ℕ) → length request ≡ 7 → length told ≡ 2 → drifted 0 drift' told' ≡ measured_of x drift → drifted 0 drift' told' ≡ host_drift object request drift told
  unfolding host_drift
  measured_host x a drift' told' q t e = rw (eq-eqb (length request) 7 q, eq-eqb (length told) 2 t) (e ∙ kept_left x (host_request object request) drift a)
