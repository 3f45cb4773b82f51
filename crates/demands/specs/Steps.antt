-- A list of steps: any chain of results that meet `step`'s promise, whatever a planner keeps in its private fields. proofs/Steps.antt has demand 2 of it.
-- Assumes nothing.
use Rattle.std.specs.Prelude.{List, [], ◌∷◌}
use Rattle.tile.specs.declared.bank.Bank.{Bank}
use Rattle.plan.specs.Steps.{Answer}
use Rattle.planner.specs.Planner.{Planner}
use Rattle.planner.specs.declared.types.Step.{Step}
use Rattle.planner.specs.declared.types.Stepped.{Stepped}
use Rattle.planner.specs.Coming.{answer_in, StepGives, StepIs}

-- steps one after another, each on the planner and the bank last handed back, with their answers
pub data Steps : Planner → Bank → List Answer → Planner → Bank → Type 0 where
  none : {p : Planner} {b : Bank} → Steps p b [] p b
  step : {p : Planner} {b : Bank} {answered : List Answer} {p' : Planner} {b' : Bank} → (s : Stepped) → StepIs p b s → Steps s.planner s.bank answered p' b' → Steps p b (s.answer ∷ answered) p' b'

-- the same of `step`, which takes no bank
pub data StepsAlone : Planner → List Answer → Planner → Type 0 where
  none : {p : Planner} → StepsAlone p [] p
  step : {p : Planner} {answered : List Answer} {p' : Planner} → (s : Step) → StepGives p s → StepsAlone s.planner answered p' → StepsAlone p (answer_in s.given ∷ answered) p'
