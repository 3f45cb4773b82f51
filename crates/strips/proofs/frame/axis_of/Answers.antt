-- The three numbers are the definition's, as no edge and no size is negative.
use Rattle.std.specs.Int.{w32}
use Rattle.std.proofs.lemmas.Int.{to_z-of_z}
use Rattle.measures.specs.Range.{counted}
use Rattle.strips.specs.Frame.{axis_is}
use Rattle.strips.proofs.frame.axis_of.Goals as goal

pub returns : goal.returns
returns c =
    let low = rw (to_z-of_z w32 c.args.low c.ranges.low) at c.edge.ensures in
    let high = rw (to_z-of_z w32 c.args.high c.ranges.high) at c.edge-2.ensures in
    axis_is c.args.frame.0 _ _ _
    (rw low at c.near-edge.ensures.0)
    (rw (counted c.requires.within.1.low) (rw high at c.cells_in-cells.ensures))
    c.cells_before-skip.ensures
