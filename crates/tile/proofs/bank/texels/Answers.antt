-- The definition without integers.
use Rattle.std.proofs.Common.{arith}
use Rattle.tile.specs.Laws.{extent_is}
use Rattle.tile.proofs.bank.texels.Goals as goal

pub returns : goal.returns
returns c = omega (arith, extent_is c.args.low c.args.high, c.saturating_sub.ensures)
