-- A fresh planner has the whole plan to come, one that is over nothing but its end, and one of a copy plan its frame's.
use Rattle.std.proofs.Common.{ap, sym, ◌∙◌}
use Rattle.planner.specs.Planner.{Planner, planner_at}
use Rattle.planner.specs.Coming.{coming}
use Rattle.starts.specs.Start.{copied_end}
use Rattle.runs.specs.Ran.{steps_over}
use Rattle.runs.proofs.buffer.planned.Goals as goal

pub returns-in-Over : goal.returns-in-Over
returns-in-Over c =
    let a = c.args in
    let p = c.p.inside in
    rw c.end_of.ensures (rw (ap coming c.p.view_is ∙ c.fresh-p.ensures.coming) at (steps_over a.kept (planner_at p.course p.counts) _ c.in-Over.is a.plan.now a.bank.now))

pub returns-in-Copy : goal.returns-in-Copy
returns-in-Copy c = rw c.if-not-kept.true (c.count_entries.ensures ∙ copied_end _ _ _ _ _ _ _ _ (ap (λ (p : Planner). p.course) (sym c.p.view_is) ∙ c.in-Copy.is) c.fresh-p.ensures)
