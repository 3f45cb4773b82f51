-- What is to come stays the same over each pass without a line; the laws of such passes have the rest.
use Rattle.std.proofs.Common.{◌∙◌, arith, lit≤, sym, ap}
use Rattle.plan.specs.declared.types.Walk.{Walk}
use Rattle.plan.specs.Scaled.{advance}
use Rattle.loads.specs.Comes.{wider}
use Rattle.loads.specs.Kept.{remain_in, slice_in}
use Rattle.loads.specs.Enter.{none_ends}
use Rattle.walks.specs.Going.{gone_start, gone_idle, gone_low, gone_refused, count_in}
use Rattle.walks.proofs.Read.{count_is, left_is, rows_is, due_is, idle}
use Rattle.walks.proofs.walk.running.Goals as goal

pub draw-requires-clause-bound : goal.draw-requires-clause-bound
draw-requires-clause-bound c =
    omega (arith, due_is _ c.requires.walk c.lines_due.ensures.0)

pub advance-requires-clause-within : goal.advance-requires-clause-within
advance-requires-clause-within c =
    let w = c.args.walk in
    (wider 43 44 _ (lit≤ tt) (remain_in w c.requires.walk), rw (rows_is w c.requires.walk) (wider 43 44 _ (lit≤ tt) (slice_in w c.requires.walk)))

pub returns-in_err-next : goal.returns-in_err-next
returns-in_err-next c =
    let none = c.in_err-next.ensures in
    rw (none_ends none.ok_part none.value c.from_residual.ensures.1)
    (gone_refused _ _ _ (gone_start _ _ c.requires) (idle _ c.requires.walk c.lines_due.ensures.0 c.if-lines_due-ne0.false) (rw (rows_is _ c.requires.walk, none.ok_part) at c.advance.ensures))

pub loop-p-init : goal.loop-p-init
loop-p-init c =
    let after = rw (count_is _ c.requires.walk, left_is _ _ c.requires) at c.next_walk-w.ensures in (
      gone_idle _ _ _ (gone_start _ _ c.requires) (idle _ c.requires.walk c.lines_due.ensures.0 c.if-lines_due-ne0.false) _ _ (rw (rows_is _ c.requires.walk, c.in_ok-next.ensures.ok_part) at c.advance.ensures) after,
      ap (λ (w : Walk). w.slice_rows) after,
    )

pub forward-requires-clause-within : goal.forward-requires-clause-within
forward-requires-clause-within c = wider 43 44 _ (lit≤ tt) (remain_in c.loop-p.w c.loop-p.invariant.0.runs.walk)

pub next_walk-w-requires-in-loop-p-clause-within : goal.next_walk-w-requires-in-loop-p-clause-within
next_walk-w-requires-in-loop-p-clause-within c =
    let r = c.loop-p.invariant.0.runs in
    rw (count_is _ r.walk) (wider 32 61 _ (lit≤ tt) (count_in _ r.walk))

pub returns-in_err-next-2 : goal.returns-in_err-next-2
returns-in_err-next-2 c =
    let g = c.loop-p.invariant.0 in
    let none = c.in_err-next-2.ensures in
    rw (none_ends none.ok_part none.value c.from_residual-in_err-next-2.ensures.1)
    (gone_refused _ _ _ g (idle _ g.runs.walk c.lines_due-in-loop-p.ensures.0 c.loop-p-test.true)
    ((rw none.ok_part at c.forward.ensures) ∙ ap (advance c.args.p.scaled c.loop-p.w.source) (sym c.loop-p.invariant.1)))

pub loop-p-smaller : goal.loop-p-smaller
loop-p-smaller c =
    let g = c.loop-p.invariant.0 in
    let after = rw (count_is _ g.runs.walk, left_is _ _ g.runs) at c.next_walk-w-in-loop-p.ensures in
    gone_low _ _ _ g (idle _ g.runs.walk c.lines_due-in-loop-p.ensures.0 c.loop-p-test.true) _ _ after

pub loop-p-preserved : goal.loop-p-preserved
loop-p-preserved c =
    let g = c.loop-p.invariant.0 in
    let after = rw (count_is _ g.runs.walk, left_is _ _ g.runs) at c.next_walk-w-in-loop-p.ensures in (
      gone_idle _ _ _ g (idle _ g.runs.walk c.lines_due-in-loop-p.ensures.0 c.loop-p-test.true) _ _ ((rw c.in_ok-next-2.ensures.ok_part at c.forward.ensures) ∙ ap (advance c.args.p.scaled c.loop-p.w.source) (sym c.loop-p.invariant.1)) after,
      ap (λ (w : Walk). w.slice_rows) after,
    )

pub draw-requires-2-clause-bound : goal.draw-requires-2-clause-bound
draw-requires-2-clause-bound c =
    omega (arith, due_is _ c.loop-p.invariant.0.runs.walk c.lines_due-in-loop-p.ensures.0)
