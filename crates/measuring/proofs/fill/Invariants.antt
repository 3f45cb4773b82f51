-- What is in the buffer and what is to come make up the plan's rectangles.
use Rattle.std.proofs.Common.{length}
use Rattle.planner.specs.Coming.{coming}
use Rattle.measuring.proofs.Filled.{Going}
use Rattle.measuring.proofs.fill.Given as goal

abbrev pub invariant-loop-drift : goal.invariant-loop-drift
invariant-loop-drift l = Going l.r (coming l.initial.p).entries l.initial.drift l.drift l.p l.place l.n

abbrev pub decreases-loop-drift : goal.decreases-loop-drift
decreases-loop-drift l = length (coming l.p).entries
