-- Each way decides the test.
use Rattle.std.proofs.Common.{rules}
use Rattle.scaled.specs.Strip.{max_slice}
use Rattle.scaled.proofs.strip.max_slice_of.Goals as goal

pub returns-then-siz-eq3-clause-value : goal.returns-then-siz-eq3-clause-value
unfolding max_slice
returns-then-siz-eq3-clause-value c = search rules

pub returns-else-siz-eq3-clause-value : goal.returns-else-siz-eq3-clause-value
unfolding max_slice
returns-else-siz-eq3-clause-value c = search rules
