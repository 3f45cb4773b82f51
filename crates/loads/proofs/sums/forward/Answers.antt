-- Where the image goes on the sum is of two naturals; else it is `advance`'s.
use Rattle.std.proofs.Common.{lit≤, refl, ◌*◌, pos}
use Rattle.loads.specs.Comes.{read_in}
use Rattle.loads.specs.Loads.{advance_by_on}
use Rattle.loads.specs.Sums.{checked_sum}
use Rattle.loads.proofs.Read.{value}
use Rattle.loads.proofs.sums.forward.Goals as goal

pub returns-in_err-pointer : goal.returns-in_err-pointer
returns-in_err-pointer c =
    let z = c.args.z in
    let s = c.args.source in
    let left = value c.less-remain.type_inv (rw (read_in 44 s.remain (lit≤ tt) c.requires.within) at c.less-remain.ensures) in
    let sum = checked_sum s.pointer (z.image_rows * z.stride) c.checked_add.result c.checked_add.ensures in
    rw c.from_residual.ensures (rw c.in_err-pointer.was at (advance_by_on z s (pos z.image_rows) _ c.checked_add.result left _ refl c.if-remain-gt0.true sum))

pub returns-then-remain-gt0 : goal.returns-then-remain-gt0
returns-then-remain-gt0 c =
    let z = c.args.z in
    let s = c.args.source in
    let left = value c.less-remain.type_inv (rw (read_in 44 s.remain (lit≤ tt) c.requires.within) at c.less-remain.ensures) in
    let sum = checked_sum s.pointer (z.image_rows * z.stride) c.checked_add.result c.checked_add.ensures in
    rw c.in_ok-pointer.was at (advance_by_on z s (pos z.image_rows) _ c.checked_add.result left _ refl c.if-remain-gt0.true sum)
