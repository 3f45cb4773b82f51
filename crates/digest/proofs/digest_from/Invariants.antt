-- The words to come lead to the whole digest.
use Rattle.std.proofs.Common.{◌≡◌, drop}
use Rattle.digest.specs.Fnv.{digest_from}
use Rattle.digest.proofs.digest_from.Given as goal

abbrev pub invariant-loop-word : goal.invariant-loop-word
invariant-loop-word l = digest_from l.hash (drop l.word-index l.words) ≡ digest_from l.fn.before l.words
