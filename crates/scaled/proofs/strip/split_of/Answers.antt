-- The number of the test is the definition's, whichever way it falls.
use Rattle.std.proofs.Common.{◌≡◌, refl, Bool, true, false, cond, leb}
use Rattle.std.specs.Int.{from_bool}
use Rattle.measures.specs.Measure.{thirty_seconds}
use Rattle.scaled.specs.Strip.{split_of}
use Rattle.scaled.proofs.strip.split_of.Goals as goal

either : (t : Bool) → from_bool t ≡ cond t 1 0
either true = refl
either false = refl

pub returns : goal.returns
unfolding split_of
returns c = rw (c.from.ensures, c.thirty_seconds.ensures, c.thirty_seconds-2.ensures) (either (leb (thirty_seconds c.args.source_w) (thirty_seconds c.args.end)))
