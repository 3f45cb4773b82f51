-- Both loops keep the numbers so far and the end of what is to come, which together are the whole plan's.
use Rattle.std.proofs.Common.{◌-◌}
use Rattle.counting.proofs.Counting.{AtRow, AtColumn}
use Rattle.counting.proofs.count.count_strips.Given as goal

abbrev pub invariant-columns : goal.invariant-columns
invariant-columns l = AtColumn l.c l.y l.sy l.strip_height l.entries l.rectangles l.words l.verdict l.x l.sx

abbrev pub decreases-columns : goal.decreases-columns
decreases-columns l = l.c.width - l.x

abbrev pub invariant-rows : goal.invariant-rows
invariant-rows l = AtRow l.c l.entries l.rectangles l.words l.verdict l.y l.sy

abbrev pub decreases-rows : goal.decreases-rows
decreases-rows l = l.c.height - l.y
