-- The calls are the definition's numbers, and its law has their ranges.
use Rattle.std.proofs.Common.{SFits, w32}
use Rattle.std.proofs.lemmas.Int.{to_z-of_z}
use Rattle.signed.specs.Diff.{zarith}
use Rattle.strips.specs.Frame.{copy_is}
use Rattle.strips.proofs.frame.copy_of.Goals as goal

pub returns : goal.returns
returns c =
    let ulx : SFits w32 c.args.scissor.ulx = omega zarith in
    let uly : SFits w32 c.args.scissor.uly = omega zarith in
    let lrx : SFits w32 c.args.scissor.lrx = omega zarith in
    let lry : SFits w32 c.args.scissor.lry = omega zarith in
    rw (c.into.ensures, c.into-2.ensures, c.into-3.ensures, c.flipped.ensures)
    (copy_is c.args.bg c.args.scissor c.args.address c.requires
    (rw (to_z-of_z w32 _ ulx, to_z-of_z w32 _ lrx) at c.axis_of-across.ensures)
    (rw (to_z-of_z w32 _ uly, to_z-of_z w32 _ lry) at c.axis_of-down.ensures)
    c.texels.ensures
    c.texels-2.ensures
    c.texels-3.ensures
    c.whole_texels.ensures
    c.whole_texels-2.ensures
    c.strip_lines.ensures.0
    c.strip_lines.ensures.1
    c.low8.ensures
    c.copy_capacity.ensures.is
    c.texels_per_word.ensures)
