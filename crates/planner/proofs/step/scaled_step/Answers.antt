-- What the walk answers makes the planner's step, by one law: a call requires what the law says of the step, and the step is what the call returns.
-- With the law named on the function (`using`) and no answers, only what `stop` requires was proved.
use Rattle.planner.proofs.StepLaws.{step_scaled}
use Rattle.planner.proofs.step.scaled_step.Goals as goal

pub give-requires-clause-sound : goal.give-requires-clause-sound
give-requires-clause-sound c = (step_scaled c.scaled_next.ensures (rw c.in-Ok-default-Ok.field-0-1-is at c.in-Ok-default-Ok.is) c.requires).sound

pub returns-in-Ok-default-Ok : goal.returns-in-Ok-default-Ok
returns-in-Ok-default-Ok c = rw c.give.ensures (step_scaled c.scaled_next.ensures (rw c.in-Ok-default-Ok.field-0-1-is at c.in-Ok-default-Ok.is) c.requires)

pub give-requires-in-Ok-default-Err-clause-sound : goal.give-requires-in-Ok-default-Err-clause-sound
give-requires-in-Ok-default-Err-clause-sound c = (step_scaled c.scaled_next.ensures (rw c.in-Ok-default-Err.field-0-1-is at c.in-Ok-default-Err.is) c.requires).sound

pub returns-in-Ok-default-Err : goal.returns-in-Ok-default-Err
returns-in-Ok-default-Err c = rw c.give-in-Ok-default-Err.ensures (step_scaled c.scaled_next.ensures (rw c.in-Ok-default-Err.field-0-1-is at c.in-Ok-default-Err.is) c.requires)

pub returns-in-Err : goal.returns-in-Err
returns-in-Err c = rw c.stop.ensures (step_scaled c.scaled_next.ensures c.in-Err.is c.requires)
