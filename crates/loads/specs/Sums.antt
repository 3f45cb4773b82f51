-- Address sums by cases: in range, below 0, beyond 2^64 − 1; and as the checked sums of `u64`.
-- Assumes nothing.
use Rattle.std.specs.Prelude.{◌≡◌, refl, Option, Some, None, SomeIff, Bool, true, false, ℕ, zero, suc, ◌+◌, ◌-◌, ◌*◌, ◌^◌, ◌≤◌, ◌<◌, ltb, ℤ, pos, negsuc, neg_ℤ, ◌+ℤ◌, ◌<ℤ◌, nat_abs}
use Rattle.std.proofs.Common.{ap, ◌∙◌, sym, lt-ltb, le-ltb, arith}
use Rattle.std.proofs.lemmas.Bool.{false≢true}
use Rattle.std.specs.Int.Signed.{lt_z}
use Rattle.signed.specs.Diff.{up, zdiff, zarith}
use Rattle.object.specs.declared.types.Verdict.TheVariants as verdict
use Rattle.plan.specs.Out.{Out, yield, refuse}
use Rattle.plan.specs.declared.types.Scaled.{Scaled}
use Rattle.plan.specs.Load.{source_address}
use Rattle.plan.specs.Scaled.{back}
use Rattle.loads.specs.Coming.{sum_out}
use Rattle.loads.specs.Loads.{back_none, back_one}

-- the sum as a function of its value
abbrev by_sum : ℤ → Out ℕ
by_sum s = elim (lt_z s (pos 0)) [ true ↦ refuse verdict.Address | false ↦ elim (ltb (up s) (2 ^ 64)) [ true ↦ yield (up s) | false ↦ refuse verdict.Address ] ]

in_range : (n : ℕ) → n < 2 ^ 64 → by_sum (pos n) ≡ yield n
in_range n h = by (ltb n 0) (le-ltb n 0 (omega arith)) (ltb n (2 ^ 64)) (lt-ltb n (2 ^ 64) h)
  where
    by : (t : Bool) → t ≡ false → (u : Bool) → u ≡ true → elim t [ true ↦ refuse verdict.Address | false ↦ elim u [ true ↦ yield n | false ↦ refuse verdict.Address ] ] ≡ yield n
    by t p u q = rw (p, q)

beyond : (n : ℕ) → 2 ^ 64 ≤ n → by_sum (pos n) ≡ refuse verdict.Address
beyond n h = by (ltb n 0) (le-ltb n 0 (omega arith)) (ltb n (2 ^ 64)) (le-ltb n (2 ^ 64) h)
  where
    by : (t : Bool) → t ≡ false → (u : Bool) → u ≡ false → elim t [ true ↦ refuse verdict.Address | false ↦ elim u [ true ↦ yield n | false ↦ refuse verdict.Address ] ] ≡ refuse {A = ℕ} verdict.Address
    by t p u q = rw (p, q)

below : (s : ℤ) → s <ℤ pos 0 → by_sum s ≡ refuse verdict.Address
below (pos n) h = absurd (omega zarith)
below (negsuc n) h = refl

pub sum_in : (a n : ℕ) (z : ℤ) → pos a +ℤ z ≡ pos n → n < 2 ^ 64 → source_address a z ≡ yield n
unfolding source_address
sum_in a n z e h = ap by_sum e ∙ in_range n h

pub sum_beyond : (a n : ℕ) (z : ℤ) → pos a +ℤ z ≡ pos n → 2 ^ 64 ≤ n → source_address a z ≡ refuse verdict.Address
unfolding source_address
sum_beyond a n z e h = ap by_sum e ∙ beyond n h

pub sum_below : (a : ℕ) (z : ℤ) → (pos a +ℤ z) <ℤ pos 0 → source_address a z ≡ refuse verdict.Address
unfolding source_address
sum_below a z h = below (pos a +ℤ z) h

-- `checked_add` and `checked_sub`
pub checked_sum : (a n : ℕ) (r : Option ℕ) → SomeIff r (a + n < 2 ^ 64) (a + n) → sum_out r ≡ source_address a (pos n)
checked_sum a n None h = sym (sum_beyond a (a + n) (pos n) refl (omega arith))
checked_sum a n (Some x) h = rw h.1 (sym (sum_in a (a + n) (pos n) refl h.0))

pub checked_difference : (a n : ℕ) (r : Option ℕ) → a < 2 ^ 64 → SomeIff r (n ≤ a) (a - n) → sum_out r ≡ source_address a (neg_ℤ (pos n))
checked_difference a n None f h = sym (sum_below a (neg_ℤ (pos n)) (simp zdiff (omega zarith)))
checked_difference a n (Some x) f h = rw h.1 (sym (sum_in a (a - n) (neg_ℤ (pos n)) (simp zdiff (omega zarith)) (omega arith)))

-- R 189–190, 201–203: no row back, or one, as one offset
pub back_is : (z : Scaled) (odd p : ℕ) → odd ≤ 1 → p < 2 ^ 64 → back z odd p ≡ source_address p (neg_ℤ (pos (odd * z.stride)))
back_is z zero p h f = let e : 0 * z.stride ≡ 0 = omega arith in rw (e, back_none z 0 p refl) (sym (sum_in p p (neg_ℤ (pos 0)) (simp zdiff (omega zarith)) f))
back_is z (suc zero) p h f = let e : 1 * z.stride ≡ z.stride = omega arith in rw e (back_one z 1 p refl)
back_is z (suc (suc n)) p h f = absurd (omega arith)

-- the same of an offset of either sign
pub checked_on : (a : ℕ) (z : ℤ) (r : Option ℕ) → lt_z z (pos 0) ≡ false → SomeIff r (a + nat_abs z < 2 ^ 64) (a + nat_abs z) → sum_out r ≡ source_address a z
checked_on a (pos n) r t h = checked_sum a n r h
checked_on a (negsuc n) r t h = absurd (false≢true (sym t))

pub checked_back : (a : ℕ) (z : ℤ) (r : Option ℕ) → a < 2 ^ 64 → lt_z z (pos 0) ≡ true → SomeIff r (nat_abs z ≤ a) (a - nat_abs z) → sum_out r ≡ source_address a z
checked_back a (pos n) r f t h = absurd (omega (zarith, t))
checked_back a (negsuc n) r f t h = checked_difference a (suc n) r f h
