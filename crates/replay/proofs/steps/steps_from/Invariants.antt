-- What is answered and what is to come make up the answers; entries and ends are to come.
use Rattle.std.proofs.Common.{◌+◌, ◌-◌, length}
use Rattle.planner.specs.Coming.{coming}
use Rattle.replay.proofs.Stepping.{Under}
use Rattle.replay.proofs.steps.steps_from.Given as goal

abbrev pub invariant-loop-ends : goal.invariant-loop-ends
invariant-loop-ends l = Under (coming l.initial.p) l.initial.b l.initial.answers l.p l.b l.answers l.ends

abbrev pub decreases-loop-ends : goal.decreases-loop-ends
decreases-loop-ends l = length (coming l.p).entries + (4 - l.ends)
