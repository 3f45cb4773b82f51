-- A frame that is not flipped moves by nothing.
use Rattle.std.proofs.Common.{ap}
use Rattle.measures.specs.Measure.{in_quarters}
use Rattle.measures.specs.Range.{counted}
use Rattle.scaled.specs.Clip.{moved}
use Rattle.scaled.specs.Number.{add_nothing}
use Rattle.scaled.proofs.clip.x_of.Goals as goal

pub returns-then-flip-clause-value : goal.returns-then-flip-clause-value
unfolding moved
returns-then-flip-clause-value c = rw (c.if-flip.true, counted c.requires.1.low) c.add.ensures

pub returns-else-flip-clause-value : goal.returns-else-flip-clause-value
unfolding moved
returns-else-flip-clause-value c = rw c.if-flip.false (ap in_quarters (add_nothing c.args.frame_x.0))
