-- The library's smaller of two numbers is the definitions', and is no lower than both.
-- Assumes nothing.
use Rattle.std.specs.Prelude.{◌≡◌, refl, Bool, true, false, cond, ℤ, ◌≤ℤ◌}
use Rattle.std.specs.Int.{int_min}
use Rattle.std.specs.Int.Signed.{lt_z, le_z}
use Rattle.signed.specs.Diff.{zarith}
use Rattle.signed.specs.Cast.{min_z}

pub min_is : (a b : ℤ) → int_min a b ≡ min_z a b
min_is a b = by (lt_z b a) (le_z a b) refl refl
  where
    by : (t u : Bool) → lt_z b a ≡ t → le_z a b ≡ u → cond t b a ≡ cond u a b
    by true true e f = absurd (omega zarith)
    by true false e f = refl
    by false true e f = refl
    by false false e f = absurd (omega zarith)

pub min_low : (a b l : ℤ) → l ≤ℤ a → l ≤ℤ b → l ≤ℤ min_z a b
min_low a b l h k = by (le_z a b)
  where
    by : (t : Bool) → l ≤ℤ cond t a b
    by true = h
    by false = k
