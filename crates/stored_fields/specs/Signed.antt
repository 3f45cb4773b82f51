-- A flag as a word; a signed number as a word, and out of a word; bounds of such a number by its two parts, `up` and `dn`.
-- Assumes nothing.
use Rattle.std.specs.Prelude.{Bool, cond, List, ℕ, ℤ, get_or}
use Rattle.std.specs.Int.{w64}
use Rattle.std.proofs.Common.{to_z}

abbrev pub flag_word : Bool → ℕ
flag_word t = cond t 1 0

-- the signed number at a place
abbrev pub signed_at : List ℕ → ℕ → ℤ
signed_at ws i = to_z w64 (get_or ws i 0)
