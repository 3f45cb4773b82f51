-- Over the digits that stand the sign is put, if there is one and a place for it.
use Rattle.std.proofs.Common.{◌+◌, arith, sym, ◌∙◌}
use Rattle.lines.proofs.Columns.{put_marked, put_plain}
use Rattle.lines.proofs.column.put.Goals as goal

pub returns-then-at-first : goal.returns-then-at-first
returns-then-at-first c =
    let d = rw c.magnitude.ensures at c.digits-first.ensures in
    put_marked c.args.out.now c.args.at c.args.width c.args.x c.requires (c.args.at + c.from.result) (omega arith) _ _ d (sym c.is_negative.ensures ∙ c.if-is_negative.true) c.if-at-first.true

pub returns-else-is_negative : goal.returns-else-is_negative
returns-else-is_negative c =
    let t = rw c.is_negative.ensures at c.else-is_negative.either in
    let d = rw c.magnitude.ensures at c.digits-first.ensures in
    put_plain c.args.out.now c.args.at c.args.width c.args.x c.requires (c.args.at + c.from.result) (omega arith) _ _ d t
