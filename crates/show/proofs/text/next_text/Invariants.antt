-- What is written, in front of what one call on the rest would write, is what this call is to write; each line leaves less to come.
use Rattle.std.proofs.Common.{length}
use Rattle.planner.specs.Coming.{coming}
use Rattle.show.proofs.Going.{Going}
use Rattle.show.proofs.text.next_text.Given as goal

abbrev pub invariant-loop-out : goal.invariant-loop-out
invariant-loop-out l = Going (coming l.initial.planner) l.initial.out l.out l.planner l.count

abbrev pub decreases-loop-out : goal.decreases-loop-out
decreases-loop-out l = length (coming l.planner).entries
