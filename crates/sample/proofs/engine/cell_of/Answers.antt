-- Each test picks its case.
use Rattle.std.proofs.Common.{inl, inr, sym}
use Rattle.sample.proofs.Cell.{cell_texel, cell_outside}
use Rattle.sample.proofs.engine.cell_of.Goals as goal
use Rattle.sample.proofs.engine.cell_of.Goals.{else-column-c-via-then-column-c+else-line-c, else-column-c-via-else-column-c}

pub returns-then-line-c : goal.returns-then-line-c
returns-then-line-c c = let a = c.args in cell_texel a.c a.column a.line c.if-column-c.true c.if-line-c.true c.column_at.ensures.is c.strip_row.ensures.is

pub returns-else-column-c : goal.returns-else-column-c
returns-else-column-c c =
    let a = c.args in
    elim c.else-column-c.branch [
      | else-column-c-via-then-column-c+else-line-c w ↦ sym (cell_outside a.c a.column a.line (inr w.if-line-c.false))
      | else-column-c-via-else-column-c w ↦ sym (cell_outside a.c a.column a.line (inl w.if-column-c.false))
    ]
