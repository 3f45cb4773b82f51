-- The move is the definition's, and the law has the rest.
use Rattle.std.proofs.Common.{lit≤}
use Rattle.loads.specs.Comes.{wider}
use Rattle.loads.specs.Kept.{remain_in, rows_in}
use Rattle.loads.specs.Enter.{moved_to, moved_refused, none_ends}
use Rattle.loads.proofs.Read.{rows_is}
use Rattle.loads.proofs.load.moved.Goals as goal

pub advance-requires-clause-within : goal.advance-requires-clause-within
advance-requires-clause-within c =
    let p = c.args.p in
    (wider 43 44 _ (lit≤ tt) (remain_in p.walk c.requires.walk), rw (rows_is p c.requires) (wider 43 44 _ (lit≤ tt) (rows_in p c.requires)))

pub returns-in_err-next : goal.returns-in_err-next
returns-in_err-next c =
    let none = c.in_err-next.ensures in
    rw (none_ends none.ok_part none.value c.from_residual.ensures.1) (moved_refused c.args.p c.requires (rw (rows_is c.args.p c.requires, none.ok_part) at c.advance.ensures))

pub returns : goal.returns
returns c = moved_to c.args.p c.requires _ (rw (rows_is c.args.p c.requires, c.in_ok-next.ensures.ok_part) at c.advance.ensures)
