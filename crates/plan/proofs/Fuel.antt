-- More fuel changes nothing of the passes, where it is enough: each pass lowers 64 × lines left − count / 16, since frame_rows is at least 16.
-- Assumes nothing.
use Rattle.std.specs.Prelude.{◌≡◌, refl, Bool, true, false, ℕ, zero, suc, ◌+◌, ◌*◌, ◌/◌, ◌≤◌, ◌<◌, ltb, ℤ, pos}
use Rattle.std.proofs.Common.{sym, ap, ◌∙◌, arith, ltb-true}
use Rattle.std.specs.Int.Signed.{lt_z}
use Rattle.plan.specs.declared.types.Scaled.{Scaled}
use Rattle.plan.specs.declared.types.Walk.{Walk}
use Rattle.plan.specs.Scaled.{passes}
use Rattle.plan.specs.Laws.{passes_on, passes_end, pass_same, after_idle, after_lines}

pub passes_fuel : (n : ℕ) (z : Scaled) (w : Walk) (f c : ℕ) → 16 ≤ z.frame_rows → w.frame_remain ≡ pos f → w.count ≡ pos c → 1 ≤ n → 64 * f + 1 ≤ n + c / 16 → passes n z w ≡ passes (suc n) z w
passes_fuel zero z w f c r p q one e = absurd (omega arith)
passes_fuel (suc m) z w f c r p q one e = by (ltb 0 f) refl (λ w' f' c' p' q'. passes_fuel m z w' f' c' r p' q')
  where
    test : (t : Bool) → ltb 0 f ≡ t → lt_z (pos 0) w.frame_remain ≡ t
    test t h = ap (λ (v : ℤ). lt_z (pos 0) v) p ∙ h

    by : (t : Bool) → ltb 0 f ≡ t
        → ((w' : Walk) (f' c' : ℕ) → w'.frame_remain ≡ pos f' → w'.count ≡ pos c' → 1 ≤ m → 64 * f' + 1 ≤ m + c' / 16 → passes m z w' ≡ passes (suc m) z w')
        → passes (suc m) z w ≡ passes (suc (suc m)) z w
    by true t rec =
        let h : 0 < f = ltb-true 0 f t in
        passes_on m z w (test true t)
        ∙ pass_same z w (λ next. passes m z next) (λ next. passes (suc m) z next) (after_idle m z w f c r p q e h rec) (after_lines m z w f c r p q e h rec)
        ∙ sym (passes_on (suc m) z w (test true t))
    by false t rec = passes_end (suc m) z w (test false t) ∙ sym (passes_end (suc (suc m)) z w (test false t))
