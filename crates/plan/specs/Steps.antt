-- What is claimed of steps: n steps from a fresh planner answer the plan's first n entries and then its end for ever, and the bank is the fold over the entries given. D is docs/SPECIFICATION.md.
-- `Gives` is what a planner's definition has to show, once for each step; `steps_give` is the claim from it, for any planner.
-- Assumes nothing.
use Rattle.std.specs.Prelude.{◌≡◌, Result, Ok, Err}
use Rattle.std.proofs.Math.Path.{refl, ap}
use Rattle.std.proofs.Common.{◌∙◌}
use mathlib.Core.List.{List, [], ◌∷◌}
use Prim.Native.Nat.{ℕ, zero, suc}
use Rattle.plan.specs.Request.{Request}
use Rattle.plan.specs.declared.types.Entry.{Entry}
use Rattle.plan.specs.Out.{Plan}
use Rattle.tile.specs.declared.bank.Bank.{Bank}
use Rattle.plan.specs.Whole.{plan_of}
use Rattle.plan.specs.declared.types.End.{End}
use Rattle.plan.specs.Run.{Ran, end_of, bank_after, bank_step, run_of}

-- what a step answers: an entry, or the end
abbrev pub Answer : Type 0
Answer = Result Entry End

pub record Stepped (P : Type 0) : Type 0 where
  pub planner : P
  pub bank : Bank
  pub answer : Answer

-- the answers of n steps
unfoldable pub answers_of : {P : Type 0} → (P → Bank → Stepped P) → ℕ → P → Bank → List Answer
answers_of step_of zero p b = []
answers_of step_of (suc n) p b = (step_of p b).answer ∷ answers_of step_of n (step_of p b).planner (step_of p b).bank

-- the bank after n steps
unfoldable pub bank_steps : {P : Type 0} → (P → Bank → Stepped P) → ℕ → P → Bank → Bank
bank_steps step_of zero p b = b
bank_steps step_of (suc n) p b = bank_steps step_of n (step_of p b).planner (step_of p b).bank

-- the first n of: the entries, then the end for ever
unfoldable pub answers : ℕ → List Entry → End → List Answer
answers zero es e = []
answers (suc n) [] e = Err e ∷ answers n [] e
answers (suc n) (x ∷ es) e = Ok x ∷ answers n es e

-- the bank after n of them; what a refused call has set is set by the first step that answers the end, and by no later one
unfoldable pub bank_to : ℕ → List Entry → List Entry → Bank → Bank
bank_to zero es left b = b
bank_to (suc n) [] left b = bank_to n [] [] (bank_after b left)
bank_to (suc n) (x ∷ es) left b = bank_to n es left (bank_step b x)

-- demand 2 of docs/CLAIMS.md, as a claim about a planner's definition
pub record StepsGive {P : Type 0} (fresh : Request → P) (step_of : P → Bank → Stepped P) : Type 0 where
  pub answered : (q : Request) (b : Bank) (n : ℕ) → answers_of step_of n (fresh q) b ≡ answers n (plan_of q).entries (end_of (plan_of q))
  pub banked : (q : Request) (b : Bank) (n : ℕ) → bank_steps step_of n (fresh q) b ≡ bank_to n (plan_of q).entries (plan_of q).left b

-- D "A whole run writes entries of eleven 64-bit words", for a run's definition
pub record RunGives (ran_of : Request → List ℕ → Bank → Ran) : Type 0 where
  pub ran : (q : Request) (buf : List ℕ) (b : Bank) → ran_of q buf b ≡ run_of (plan_of q) buf b

-- what is still to come of a planner: entries, what the refusing call sets, the end
pub record Coming : Type 0 where
  pub entries : List Entry
  pub left : List Entry
  pub end : End

abbrev pub coming_of : Plan → Coming
coming_of p = record { entries = p.entries; left = p.left; end = end_of p }

-- one step from a planner with that to come
abbrev pub next_of : List Entry → List Entry → End → Coming
next_of [] left e = record { entries = []; left = []; end = e }
next_of (x ∷ es) left e = record { entries = es; left = left; end = e }

abbrev pub answer_of : List Entry → End → Answer
answer_of [] e = Err e
answer_of (x ∷ es) e = Ok x

abbrev pub bank_next : List Entry → List Entry → Bank → Bank
bank_next [] left b = bank_after b left
bank_next (x ∷ es) left b = bank_step b x

-- a step answers the first of what is to come, and leaves the rest
pub record Gives {P : Type 0} (coming : P → Coming) (step_of : P → Bank → Stepped P) : Type 0 where
  pub answer : (p : P) (b : Bank) → (step_of p b).answer ≡ answer_of (coming p).entries (coming p).end
  pub rest : (p : P) (b : Bank) → coming (step_of p b).planner ≡ next_of (coming p).entries (coming p).left (coming p).end
  pub bank : (p : P) (b : Bank) → (step_of p b).bank ≡ bank_next (coming p).entries (coming p).left b

module _ {P : Type 0} (step_of : P → Bank → Stepped P) (coming : P → Coming) (law : Gives coming step_of) where
  answered_from : (n : ℕ) (p : P) (b : Bank) (es left : List Entry) (e : End) → coming p ≡ record { entries = es; left = left; end = e } → answers_of step_of n p b ≡ answers n es e
  unfolding answers_of answers
  answered_from zero p b es left e h = refl
  answered_from (suc n) p b [] left e h =
      let a : (step_of p b).answer ≡ Err e = law.answer p b ∙ ap (λ (c : Coming). answer_of c.entries c.end) h in
      let r = answered_from n (step_of p b).planner (step_of p b).bank [] [] e (law.rest p b ∙ ap (λ (c : Coming). next_of c.entries c.left c.end) h) in
      rw (a, r)
  answered_from (suc n) p b (x ∷ es) left e h =
      let a : (step_of p b).answer ≡ Ok x = law.answer p b ∙ ap (λ (c : Coming). answer_of c.entries c.end) h in
      let r = answered_from n (step_of p b).planner (step_of p b).bank es left e (law.rest p b ∙ ap (λ (c : Coming). next_of c.entries c.left c.end) h) in
      rw (a, r)

  banked_from : (n : ℕ) (p : P) (b : Bank) (es left : List Entry) (e : End) → coming p ≡ record { entries = es; left = left; end = e } → bank_steps step_of n p b ≡ bank_to n es left b
  unfolding bank_steps bank_to
  banked_from zero p b es left e h = refl
  banked_from (suc n) p b [] left e h =
      let k : (step_of p b).bank ≡ bank_after b left = law.bank p b ∙ ap (λ (c : Coming). bank_next c.entries c.left b) h in
      let r = banked_from n (step_of p b).planner (step_of p b).bank [] [] e (law.rest p b ∙ ap (λ (c : Coming). next_of c.entries c.left c.end) h) in
      r ∙ ap (λ (c : Bank). bank_to n [] [] c) k
  banked_from (suc n) p b (x ∷ es) left e h =
      let k : (step_of p b).bank ≡ bank_step b x = law.bank p b ∙ ap (λ (c : Coming). bank_next c.entries c.left b) h in
      let r = banked_from n (step_of p b).planner (step_of p b).bank es left e (law.rest p b ∙ ap (λ (c : Coming). next_of c.entries c.left c.end) h) in
      r ∙ ap (λ (c : Bank). bank_to n es left c) k

-- so a planner whose fresh value has the whole plan to come meets the claim
pub steps_give : {P : Type 0} (fresh : Request → P) (step_of : P → Bank → Stepped P) (coming : P → Coming) → Gives coming step_of → ((q : Request) → coming (fresh q) ≡ coming_of (plan_of q)) → StepsGive fresh step_of
steps_give fresh step_of coming law start =
    record {
      answered = λ q b n. answered_from step_of coming law n (fresh q) b (plan_of q).entries (plan_of q).left (end_of (plan_of q)) (start q);
      banked = λ q b n. banked_from step_of coming law n (fresh q) b (plan_of q).entries (plan_of q).left (end_of (plan_of q)) (start q);
    }

-- the claim can be met: the planner that is the list of what is to come
abbrev pub list_step : Coming → Bank → Stepped Coming
list_step c b =
    record { planner = next_of c.entries c.left c.end; bank = bank_next c.entries c.left b; answer = answer_of c.entries c.end }

pub list_steps : StepsGive (λ q. coming_of (plan_of q)) list_step
list_steps = steps_give (λ q. coming_of (plan_of q)) list_step (λ c. c) (record { answer = λ p b. refl; rest = λ p b. refl; bank = λ p b. refl }) (λ q. refl)
