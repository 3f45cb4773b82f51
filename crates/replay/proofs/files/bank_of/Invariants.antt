-- The first k words are those of the file.
use Rattle.std.proofs.Common.{◌≡◌, List, ℕ, length, take}
use Rattle.replay.specs.Outcome.{words_in}
use Rattle.replay.proofs.files.bank_of.Given as goal

pub record Read (bytes numbers : List ℕ) (k : ℕ) : Type 0 where
  pub long : length numbers ≡ 136
  pub words : take k numbers ≡ words_in k bytes

abbrev pub invariant-loop-k : goal.invariant-loop-k
invariant-loop-k l = Read l.bytes l.numbers l.k
