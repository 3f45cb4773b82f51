-- What the walk answers makes the planner's step, by one law: a call requires what the law says of the step, and the step is what the call returns.
-- With the law named on the function (`using`) and no answers, only what `stop` requires was proved.
use Rattle.planner.proofs.StepLaws.{step_copy}
use Rattle.planner.proofs.step.copy_step.Goals as goal

pub give-requires-clause-given : goal.give-requires-clause-given
give-requires-clause-given c = (c.requires.counts, (step_copy c.in-Ok.ensures c.requires).ranges)

pub give-requires-clause-sound : goal.give-requires-clause-sound
give-requires-clause-sound c = (step_copy c.in-Ok.ensures c.requires).sound

pub returns-in-Ok : goal.returns-in-Ok
returns-in-Ok c = rw c.give.ensures (step_copy c.in-Ok.ensures c.requires)

pub returns-in-Err-TooBig : goal.returns-in-Err-TooBig
returns-in-Err-TooBig c = rw c.stop.ensures (step_copy (rw c.in-Err-TooBig.field-0-is at c.in-Err-TooBig.ensures) c.requires)

pub returns-in-Err-Overflow : goal.returns-in-Err-Overflow
returns-in-Err-Overflow c = rw c.stop-in-Err-Overflow.ensures (step_copy (rw c.in-Err-Overflow.field-0-is at c.in-Err-Overflow.ensures) c.requires)

pub returns-in-Err-Finished : goal.returns-in-Err-Finished
returns-in-Err-Finished c = rw c.stop-in-Err-Finished.ensures (step_copy (rw c.in-Err-Finished.field-0-is at c.in-Err-Finished.ensures) c.requires)
