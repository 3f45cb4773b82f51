-- The scissor's edge reads back as the number that it is.
use Rattle.scaled.specs.Clip.{near_cut}
use Rattle.scaled.specs.Range.{reads_edge}
use Rattle.scaled.proofs.clip.near_cut.Goals as goal

pub returns-clause-value : goal.returns-clause-value
unfolding near_cut
returns-clause-value c = rw (c.sub.ensures, rw (reads_edge c.requires.0) at c.edge.ensures) at c.extent.ensures
