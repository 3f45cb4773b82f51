-- The library's smaller of two widths is the definition's.
use Rattle.measures.specs.Range.{counted}
use Rattle.measures.proofs.Least.{min_width}
use Rattle.scaled.specs.Clip.{lower}
use Rattle.scaled.proofs.clip.height_of.Goals as goal

pub returns-clause-value : goal.returns-clause-value
unfolding lower
returns-clause-value c = rw (counted c.requires.0.low) (rw (min_width, c.max_of.ensures.value) at c.min.ensures)
