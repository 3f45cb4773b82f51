-- Each call's result is the definition's number.
use Rattle.scaled.specs.Range.{reads_edge}
use Rattle.scaled.proofs.clip.down.Goals as goal

pub returns : goal.returns
returns c =
    let p = c.requires.passed.edges in
    rw (reads_edge p.uly, reads_edge p.lry, c.height_of-height.ensures.value) at c.cut_axis.ensures
