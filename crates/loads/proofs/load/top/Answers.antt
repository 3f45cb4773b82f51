-- The rows from the top are the definition's branch.
use Rattle.std.proofs.Common.{arith}
use Rattle.loads.specs.Enter.{wraps_is, reaches_as}
use Rattle.loads.proofs.Read.{load_is}
use Rattle.loads.proofs.load.top.Goals as goal

pub from_top-requires-clause-remain_value : goal.from_top-requires-clause-remain_value
from_top-requires-clause-remain_value c = rw (load_is c.args.p c.requires.sound_pass c.plus.type_inv c.plus.ensures) c.requires.meets.1

pub returns : goal.returns
returns c =
    let load = load_is c.args.p c.requires.sound_pass c.plus.type_inv c.plus.ensures in
    reaches_as (wraps_is c.args.p c.requires.meets.0) (omega arith) (rw load at c.from_top.ensures)
