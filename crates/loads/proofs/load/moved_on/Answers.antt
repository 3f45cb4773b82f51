-- The sum is the definition's, and the law has the rest.
use Rattle.std.proofs.Common.{sym, ◌∙◌, lit≤}
use Rattle.loads.specs.Comes.{times_comm, difference_fits, difference_is}
use Rattle.loads.specs.Kept.{remain_in, rows_in}
use Rattle.loads.specs.Enter.{on_to, on_refused, none_ends}
use Rattle.loads.proofs.Read.{value, rows_is}
use Rattle.loads.proofs.load.moved_on.Goals as goal

pub overflow_sub-remain : goal.overflow_sub-remain
overflow_sub-remain c = difference_fits (lit≤ tt) (remain_in c.args.p.walk c.requires.walk) (rows_in c.args.p c.requires)

pub returns-in_err-pointer : goal.returns-in_err-pointer
returns-in_err-pointer c =
    let p = c.args.p in
    let bytes = value c.times-bytes.type_inv (rw (rows_is p c.requires) at c.times-bytes.ensures) in
    let none = c.in_err-pointer.ensures in
    rw (none_ends none.ok_part none.value c.from_residual.ensures.1) (on_refused p c.requires _ (rw none.ok_part at c.source_address.ensures) (bytes ∙ sym (times_comm p.scaled.stride p.rows)))

pub returns : goal.returns
returns c =
    let p = c.args.p in
    let bytes = value c.times-bytes.type_inv (rw (rows_is p c.requires) at c.times-bytes.ensures) in
    let left = difference_is (lit≤ tt) (remain_in p.walk c.requires.walk) (rows_in p c.requires) in
    rw left (on_to p c.requires _ _ (rw c.in_ok-pointer.ensures.ok_part at c.source_address.ensures) (bytes ∙ sym (times_comm p.scaled.stride p.rows)))
