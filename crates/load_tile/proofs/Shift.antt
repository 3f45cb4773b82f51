-- A shift by one at least gives no more than a half.
-- Assumes nothing.
use Rattle.std.specs.Prelude.{◌≡◌, ℕ, ◌+◌, ◌-◌, ◌/◌, ◌^◌, ◌≤◌}
use Rattle.std.proofs.Common.{arith}
use Rattle.std.proofs.lemmas.Nat.{shr_le, shr-shr}

pub half : (n k : ℕ) → 1 ≤ k → n / 2 ^ k ≤ n / 2
half n k h =
    let e : 1 + (k - 1) ≡ k = omega arith in
    rw (← e, ← (shr-shr n 1 (k - 1))) (shr_le (n / 2) (k - 1))
