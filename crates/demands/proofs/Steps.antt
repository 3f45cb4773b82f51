-- Demand 2 over any list of steps: n steps from a fresh planner answer the plan's first n entries and then its end for ever, and the bank is the fold over the entries given.
-- A list of steps is any chain of results that meet `step`'s promise; so whatever a planner keeps in its private fields, this holds of it.
-- Assumes nothing.
use Rattle.std.specs.Prelude.{◌≡◌, refl, List, [], ◌∷◌, ℕ, length, Ok, Err}
use Rattle.std.proofs.Common.{ap, ◌∙◌}
use Rattle.object.specs.declared.types.Scissor.{Scissor}
use Rattle.tile.specs.declared.bank.Bank.{Bank}
use Rattle.plan.specs.declared.types.Entry.{Entry}
use Rattle.plan.specs.declared.types.End.{End}
use Rattle.plan.specs.Steps.{Answer}
use Rattle.plan.specs.Whole.{plan_of}
use Rattle.plan.specs.Run.{end_of, bank_step, bank_after}
use Rattle.plan.specs.Steps.{Coming, next_of, answer_of, bank_next, answers, bank_to}
use Rattle.planner.specs.Planner.{Planner}
use Rattle.planner.specs.Coming.{coming, answer_in, Fresh, request_of}
use Rattle.planner.specs.Planner.{Sound}
use Rattle.demands.specs.Steps.{Steps, StepsAlone, none, step}

-- any such list is one of steps with a bank, whatever bank is taken along
pub with_bank : {p : Planner} {answered : List Answer} {p' : Planner} → StepsAlone p answered p' → (b : Bank) → (b' : Bank) × Steps p b answered p' b'
with_bank none b = (b, none)
with_bank (step {p = p} s i rest) b =
    let next = bank_next (coming p).entries (coming p).left b in
    let r = with_bank rest next in
    (r.0, step (record { planner = s.planner; bank = next; answer = answer_in s.given }) (record { answer = i.answer; rest = i.rest; bank = refl; counts = i.counts; sound = i.sound }) r.1)

-- every planner on the way is sound, so that a next step may follow
pub steps_sound : {p : Planner} {b : Bank} {answered : List Answer} {p' : Planner} {b' : Bank} → Steps p b answered p' b' → Sound p → Sound p'
steps_sound none h = h
steps_sound (step s i rest) h = steps_sound rest i.sound

abbrev to_come : List Entry → List Entry → End → Coming
to_come es left e = record { entries = es; left = left; end = e }

steps_answer : {p : Planner} {b : Bank} {answered : List Answer} {p' : Planner} {b' : Bank} → Steps p b answered p' b' → (es left : List Entry) (e : End) → coming p ≡ to_come es left e → answered ≡ answers (length answered) es e
unfolding answers
steps_answer none es left e h = refl
steps_answer (step {answered = answered} s i rest) [] left e h =
    let a : s.answer ≡ Err e = i.answer ∙ ap (λ (c : Coming). answer_of c.entries c.end) h in
    let r = steps_answer rest [] [] e (i.rest ∙ ap (λ (c : Coming). next_of c.entries c.left c.end) h) in
    ap (λ (y : Answer). y ∷ answered) a ∙ ap (λ (l : List Answer). Err e ∷ l) r
steps_answer (step {answered = answered} s i rest) (x ∷ es) left e h =
    let a : s.answer ≡ Ok x = i.answer ∙ ap (λ (c : Coming). answer_of c.entries c.end) h in
    let r = steps_answer rest es left e (i.rest ∙ ap (λ (c : Coming). next_of c.entries c.left c.end) h) in
    ap (λ (y : Answer). y ∷ answered) a ∙ ap (λ (l : List Answer). Ok x ∷ l) r

steps_bank : {p : Planner} {b : Bank} {answered : List Answer} {p' : Planner} {b' : Bank} → Steps p b answered p' b' → (es left : List Entry) (e : End) → coming p ≡ to_come es left e → b' ≡ bank_to (length answered) es left b
unfolding bank_to
steps_bank none es left e h = refl
steps_bank (step {b = b} {answered = answered} s i rest) [] left e h =
    let k : s.bank ≡ bank_after b left = i.bank ∙ ap (λ (c : Coming). bank_next c.entries c.left b) h in
    let r = steps_bank rest [] [] e (i.rest ∙ ap (λ (c : Coming). next_of c.entries c.left c.end) h) in
    r ∙ ap (λ (x : Bank). bank_to (length answered) [] [] x) k
steps_bank (step {b = b} {answered = answered} s i rest) (x ∷ es) left e h =
    let k : s.bank ≡ bank_step b x = i.bank ∙ ap (λ (c : Coming). bank_next c.entries c.left b) h in
    let r = steps_bank rest es left e (i.rest ∙ ap (λ (c : Coming). next_of c.entries c.left c.end) h) in
    r ∙ ap (λ (y : Bank). bank_to (length answered) es left y) k

-- demand 2, for every request, every bank and every list of steps
module _ (bytes : List ℕ) (opcode : ℕ) (scissor : Scissor) (mode address : ℕ) (p : Planner) (f : Fresh bytes opcode scissor mode address p) where
  pub answered_is : {b : Bank} {answered : List Answer} {p' : Planner} {b' : Bank} → Steps p b answered p' b'
      → answered ≡ answers (length answered) (plan_of (request_of bytes opcode scissor mode address)).entries (end_of (plan_of (request_of bytes opcode scissor mode address)))
  answered_is r = steps_answer r _ _ _ f.coming

  pub bank_is : {b : Bank} {answered : List Answer} {p' : Planner} {b' : Bank} → Steps p b answered p' b'
      → b' ≡ bank_to (length answered) (plan_of (request_of bytes opcode scissor mode address)).entries (plan_of (request_of bytes opcode scissor mode address)).left b
  bank_is r = steps_bank r _ _ _ f.coming

  pub answered_alone : {answered : List Answer} {p' : Planner} → StepsAlone p answered p'
      → answered ≡ answers (length answered) (plan_of (request_of bytes opcode scissor mode address)).entries (end_of (plan_of (request_of bytes opcode scissor mode address)))
  answered_alone r = answered_is (with_bank r (record { tiles = [] })).1
