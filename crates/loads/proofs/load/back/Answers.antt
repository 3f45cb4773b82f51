-- The library's checked difference, of no bytes or of a row's.
use Rattle.std.proofs.Common.{◌*◌, ◌∙◌, sym}
use Rattle.loads.specs.Sums.{checked_difference, back_is}
use Rattle.loads.proofs.load.back.Goals as goal

pub returns : goal.returns
returns c = checked_difference c.args.pointer (c.args.odd * c.args.z.stride) c.checked_sub.result c.ranges.pointer.fits c.checked_sub.ensures ∙ sym (back_is c.args.z c.args.odd c.args.pointer c.requires c.ranges.pointer.fits)
