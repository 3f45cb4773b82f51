-- A mask of the bits below a power of two is a remainder.
use Rattle.scaled.specs.Number.{mask_is}
use Rattle.scaled.specs.Strip.{shift_of}
use Rattle.measures.specs.Measure.{thirty_seconds}
use Rattle.scaled.proofs.strip.column_of.Goals as goal

pub returns-clause-value : goal.returns-clause-value
unfolding shift_of
returns-clause-value c = rw (c.thirty_seconds.ensures, c.shift_of-mask.ensures.value, mask_is (thirty_seconds c.args.x) c.args.siz c.requires) at c.of_thirty_seconds.ensures
