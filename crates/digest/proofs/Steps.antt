-- A word's step is that of its eight bytes, one after another.
-- Assumes nothing.
use Rattle.std.proofs.Common.{◌≡◌, ℕ, div-one}
use Rattle.std.specs.List.{fold}
use Rattle.std.specs.Int.{w64, to_be_bytes}
use Rattle.digest.specs.Fnv.{fnv1a, word_into}

pub bytes_of_word : (w h : ℕ) → fold fnv1a h (to_be_bytes w64 w) ≡ word_into 8 w h
unfolding word_into
bytes_of_word w h = rw div-one
