-- The scissor's edge reads back as the number that it is.
use Rattle.std.proofs.Common.{◌≡◌, pos, ◌+ℤ◌, ◌-ℤ◌}
use Rattle.measures.specs.Measure.{edge, extent}
use Rattle.scaled.specs.Clip.{far_cut}
use Rattle.scaled.specs.Range.{reads_edge}
use Rattle.scaled.proofs.clip.far_cut.Goals as goal
use Rattle.scaled.proofs.clip.far_cut.Goals.{After-extent}

cut : (c : After-extent) → c.extent.result ≡ extent (c.args.extent.0 -ℤ pos (edge c.args.lr) +ℤ c.args.x.0)
cut c = rw (c.add.ensures, c.sub.ensures, rw (reads_edge c.requires.below) at c.edge.ensures) at c.extent.ensures

pub returns-clause-value : goal.returns-clause-value
unfolding far_cut
returns-clause-value c = cut c
