-- So many entries are passed.
use Rattle.planner.specs.Coming.{coming}
use Rattle.replay.specs.Passed.{Passed}
use Rattle.replay.proofs.steps.pass_over.Given as goal

abbrev pub invariant-loop : goal.invariant-loop
invariant-loop l = Passed l.counter (coming l.fn.start) l.p
