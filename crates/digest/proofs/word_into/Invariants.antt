-- The bytes to come lead to the whole word.
use Rattle.std.proofs.Common.{◌≡◌, drop}
use Rattle.std.specs.List.{fold}
use Rattle.digest.specs.Fnv.{fnv1a}
use Rattle.digest.proofs.word_into.Given as goal

abbrev pub invariant-loop-byte : goal.invariant-loop-byte
invariant-loop-byte l = fold fnv1a l.hash (drop l.byte-index l.byte-items) ≡ fold fnv1a l.fn.h l.byte-items
