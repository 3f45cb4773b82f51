-- The mask's bits are all from bit 2 on: the law of a mask that clears low bits.
use lib.Dec.{lit≤}
use Rattle.signed.specs.Mask.{high}
use Rattle.masks.proofs.clear2.Goals as goal

pub returns : goal.returns
returns c = high c.args.x 2 (lit≤ tt) c.ranges.x
