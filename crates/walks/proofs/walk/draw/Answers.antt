-- The pass is the definition's, and its law has the rest.
use Rattle.std.proofs.Common.{refl}
use Rattle.loads.proofs.Read.{value}
use Rattle.walks.specs.Going.{draw_begins}
use Rattle.walks.proofs.Read.{left_is, rows_is, due_is}
use Rattle.walks.proofs.walk.draw.Goals as goal

pub returns : goal.returns
returns c =
    let z = c.args.p.scaled in
    let w = c.args.w in
    let r = c.requires.runs in
    let due = due_is w r.walk c.lines_due-draw.ensures.0 in
    let left = value c.less-left.type_inv (rw (left_is z w r, due) at c.less-left.ensures) in
    let lines = rw (left, due) at c.cut_lines.ensures in
    let rows = value c.cut_rows.type_inv (rw (rows_is w r.walk, left) at c.cut_rows.ensures) in
    draw_begins z w _ r c.requires.bound refl refl rows lines
