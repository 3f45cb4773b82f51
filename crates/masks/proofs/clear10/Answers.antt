-- The mask's bits are all from bit 10 on: the law of a mask that clears low bits.
use lib.Dec.{lit≤}
use Rattle.signed.specs.Mask.{high}
use Rattle.masks.proofs.clear10.Goals as goal

pub returns : goal.returns
returns c = high c.args.x 10 (lit≤ tt) c.ranges.x
