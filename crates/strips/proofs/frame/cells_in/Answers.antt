-- The end is the smaller of the two.
use Rattle.measures.proofs.Least.{min_width}
use Rattle.strips.proofs.frame.cells_in.Goals as goal

pub returns : goal.returns
returns c =
    let end = rw (min_width, c.add.ensures) at c.min.ensures in
    rw (c.sub.ensures, end) at c.texels.ensures
