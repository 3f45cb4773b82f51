-- Products of bounded numbers, and tests that fail: what more than one crate needs of ℕ.
-- Assumes nothing.
use Rattle.std.specs.Prelude.{Bool, true, false, ◌||◌, ◌≡◌, refl, ℕ, ◌*◌, ◌^◌, ◌≤◌, T, ltb, eqb}
use Rattle.std.proofs.Common.{true≢false, arith, mul-le-mul, lt_of_le_of_lt, lit<, Fits}
use Rattle.std.proofs.lemmas.Bool.{eqb-false}
use Rattle.std.specs.Int.{w64}

-- a product of two bounded numbers fits 64 bits
pub fits_mul : (m n : ℕ) {a b : ℕ} → T (ltb (m * n) (2 ^ 64)) → a ≤ m → b ≤ n → Fits w64 (a * b)
fits_mul m n t h k = record { fits = lt_of_le_of_lt (mul-le-mul h k) (lit< t) }

-- neither of two tests holds
pub or_false : (a b : Bool) → (a || b) ≡ false → (a ≡ false) × (b ≡ false)
or_false true b e = absurd (true≢false e)
or_false false b e = (refl, e)

-- a number that is not 0
pub some : (n : ℕ) → eqb n 0 ≡ false → 1 ≤ n
some n e = let h = eqb-false n 0 e in omega arith
