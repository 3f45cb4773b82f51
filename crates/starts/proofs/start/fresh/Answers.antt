-- A course with the whole plan to come makes a planner that is fresh.
use Rattle.std.proofs.Common.{◌≡◌, rules}
use Rattle.starts.specs.Start.{course_or, fresh_from}
use Rattle.starts.proofs.start.fresh.Goals as goal

pub returns : goal.returns
returns c =
    let e : c.unwrap_or_else.result ≡ course_or c.first_course.result = search rules in
    rw (c.started.ensures, e) (fresh_from _ _ _ _ _ _ c.first_course.ensures)
