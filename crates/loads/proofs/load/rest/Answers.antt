-- The rows before the last are the definition's.
use Rattle.std.proofs.Common.{arith}
use Rattle.loads.specs.Enter.{rest_is, reaches_as}
use Rattle.loads.proofs.Read.{left_is, line_is}
use Rattle.loads.proofs.load.rest.Goals as goal

pub returns : goal.returns
returns c =
    let p = c.args.p in
    let h = c.requires.sound_pass in
    let left = left_is p h c.less.type_inv c.less.ensures in
    reaches_as (rest_is p c.requires.meets) (omega arith) (rw (left, line_is p.scaled h.scaled) at c.enter.ensures)
