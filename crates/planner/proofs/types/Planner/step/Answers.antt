-- After the end the step is the end again; what the two other courses give is found without an answer.
-- With the law named on the function (`using`) and no answer, this goal was not proved.
use Rattle.planner.proofs.StepLaws.{step_over}
use Rattle.planner.proofs.types.Planner.step.Goals as goal

pub returns-in-Over : goal.returns-in-Over
returns-in-Over c = step_over c.self.invariant c.self.view_is c.in-Over.is c.stop.ensures
