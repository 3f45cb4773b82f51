-- An empty frame, or the walk from its first place.
use Rattle.std.proofs.Common.{sym, ap, ◌∙◌}
use Rattle.plan.specs.Copy.{copy_empty}
use Rattle.starts.specs.Start.{copy_none, copy_begins}
use Rattle.starts.proofs.start.copy_course.Goals as goal

pub returns-then-copy_empty : goal.returns-then-copy_empty
returns-then-copy_empty c =
    let a = c.args in
    copy_none a.bg a.q.scissor a.q.address (ap copy_empty (sym c.copy_of-c.ensures.is) ∙ sym c.copy_empty.ensures ∙ c.if-copy_empty.true)

pub returns : goal.returns
returns c =
    let a = c.args in
    let i = c.copy_of-c.ensures.is in
    let t = sym c.copy_empty.ensures ∙ c.if-copy_empty.false in
    rw (c.copy_start.ensures, i) (copy_begins a.bg a.q.scissor a.q.address (rw i at (c.copy_of-c.ensures.sound t)) (rw i at t))
