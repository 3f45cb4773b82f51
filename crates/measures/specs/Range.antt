-- Ranges of signed numbers.
-- Assumes nothing.
use Rattle.std.specs.Prelude.{◌≡◌, ℕ, ◌+◌, ◌≤◌, ◌-◌, ◌^◌, ℤ, pos, neg_ℤ, ◌+ℤ◌, ◌≤ℤ◌}
use Rattle.std.specs.Int.{w64}
use Rattle.std.proofs.Common.{SFits, to_z, of_z}
use Rattle.std.proofs.lemmas.Int.{to_z-of_z}
use Rattle.signed.specs.Diff.{up, ge_dn, zdiff, zarith}

-- z lies in 0..2^k − 1, in −2^k..2^k − 1, and in −2^k..2^k
pub record Below (k : ℕ) (z : ℤ) : Type 0 where
  pub low : pos 0 ≤ℤ z
  pub high : z ≤ℤ pos (2 ^ k - 1)

pub record Within (k : ℕ) (z : ℤ) : Type 0 where
  pub low : neg_ℤ (pos (2 ^ k)) ≤ℤ z
  pub high : z ≤ℤ pos (2 ^ k - 1)

pub record Around (k : ℕ) (z : ℤ) : Type 0 where
  pub low : neg_ℤ (pos (2 ^ k)) ≤ℤ z
  pub high : z ≤ℤ pos (2 ^ k)

-- a number that is not negative is what `up` takes of it
pub counted : {z : ℤ} → pos 0 ≤ℤ z → pos (up z) ≡ z
counted {z} l = let d = ge_dn z 0 l in omega zarith

pub counted_sum : {z : ℤ} (n : ℕ) → pos 0 ≤ℤ z → z +ℤ pos n ≡ pos (up z + n)
counted_sum {z} n l = let d = ge_dn z 0 l in simp zdiff (omega zarith)

-- and what its bits read as
pub below_read : {k : ℕ} {z : ℤ} → 2 ^ k ≤ 2 ^ 63 → Below k z → to_z w64 (of_z w64 z) ≡ z
below_read {k} {z} p b = let f : SFits w64 z = omega zarith in to_z-of_z w64 z f
