-- What is given and what is to come make up the plan; the bank waits for the end.
use Rattle.std.proofs.Common.{◌≡◌, ◌*◌, length}
use Rattle.planner.specs.Coming.{coming}
use Rattle.runs.specs.Ran.{Going, stride_of}
use Rattle.runs.proofs.buffer.steps.Given as goal

abbrev pub invariant-loop-entry : goal.invariant-loop-entry
invariant-loop-entry l =
    Going l.kept (coming l.initial.p) l.initial.plan l.plan l.p l.n (l.n.entries * l.stride) l.places × ((l.stride ≡ stride_of l.kept) × (l.bank ≡ l.initial.bank))

abbrev pub decreases-loop-entry : goal.decreases-loop-entry
decreases-loop-entry l = length (coming l.p).entries
