-- What the step gives picks the law of a step with a bank.
-- With the two laws named on the function (`using`) and no answers, neither was proved.
use Rattle.std.proofs.Common.{rules}
use Rattle.planner.proofs.StepLaws.{with_entry, with_end}
use Rattle.planner.proofs.types.Planner.step_with.Goals as goal

pub returns-in-Ok : goal.returns-in-Ok
returns-in-Ok c = with_entry _ c.step-planner.result c.step-planner.ensures _ _ c.in-Ok.is _ c.bank_after.ensures

pub returns-in-Err : goal.returns-in-Err
returns-in-Err c = with_end _ c.step-planner.result c.step-planner.ensures _ _ c.in-Err.is _ _ (λ e k. search rules) c.map_or.ensures
