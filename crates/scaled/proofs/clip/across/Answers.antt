-- Each call's result is the definition's number.
use Rattle.scaled.specs.Range.{reads_edge}
use Rattle.scaled.proofs.clip.across.Goals as goal

pub returns : goal.returns
returns c =
    let p = c.requires.passed.edges in
    rw (reads_edge p.ulx, reads_edge p.lrx, c.x_of-x.ensures.value, c.width_of-width.ensures.value, c.removed_of-removed_w.ensures.value) at c.cut_axis.ensures
