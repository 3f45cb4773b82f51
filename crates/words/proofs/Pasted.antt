-- Words pasted into a buffer that they fill.
-- Assumes nothing.
use Rattle.std.proofs.Common.{◌≡◌, List, ℕ, ◌+◌, length, arith, append-nil}
use Rattle.std.proofs.Math.Seq.{paste, take-length, drop-length}

-- as many words as the buffer has: they are the buffer
pub filled : (d w : List ℕ) → length d ≡ length w → paste d 0 w (length w) ≡ w
filled d w e =
    let z : 0 + length w ≡ length d = omega arith in
    rw (z, drop-length d, take-length w) (append-nil w)
