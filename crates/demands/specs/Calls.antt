-- A list of calls of `visor_step`, each on the words that the one before it left, and what they give. proofs/Calls.antt has demand 2 of it.
-- Assumes nothing.
use Rattle.std.specs.Prelude.{◌≡◌, List, [], ◌∷◌, map, ℕ, zero, suc, length}
use Rattle.object.specs.declared.types.Verdict.{Verdict}
use Rattle.plan.specs.declared.types.Entry.{Entry}
use Rattle.plan.specs.declared.types.End.{End}
use Rattle.plan.specs.Run.{end_words}
use Rattle.plan.specs.Steps.{Coming, next_of, answer_of, answers}
use Rattle.words.specs.declared.count.Counts.{Counts}
use Rattle.words.specs.Counts.{end_with}
use Rattle.giving.specs.Host.{words_after, words_step}
use Rattle.planner.specs.declared.types.Course.TheVariants as course
use Rattle.planner.specs.Planner.{planner_at}
use Rattle.stored.specs.Stored.{WordsOf}
use Rattle.stepping.specs.Host.{answer_words, sets_next, Has, StepIs}

-- ---- one call

-- the first of c is given, and the words have the rest to come
pub record Gave (c : Coming) (bank : List ℕ) (r : ℕ) (ws' bank' out' : List ℕ) : Type 0 where
  pub answer : r ≡ 0
  pub out : out' ≡ answer_words (answer_of c.entries c.end)
  pub set : bank' ≡ words_after bank (sets_next c.entries c.left)
  pub has : Has ws' (next_of c.entries c.left c.end)

-- ---- any number of calls

-- each on the words that the one before it left, with any bank
pub data Calls : (ws : List ℕ) → (outs : List (List ℕ)) → (ws' : List ℕ) → Type 0 where
  none : {ws : List ℕ} → Calls ws [] ws
  call : (ws bank out : List ℕ) (r : ℕ) (ws₁ bank₁ out' : List ℕ) {ws' : List ℕ} {outs : List (List ℕ)} → length bank ≡ 136 → length out ≡ 11 → StepIs ws bank out r ws₁ bank₁ out' → Calls ws₁ outs ws' → Calls ws (out' ∷ outs) ws'

-- each also on the bank that the one before it left
pub data BankCalls : (ws bank : List ℕ) → (outs : List (List ℕ)) → (ws' bank' : List ℕ) → Type 0 where
  none : {ws bank : List ℕ} → BankCalls ws bank [] ws bank
  call : (ws bank out : List ℕ) (r : ℕ) (ws₁ bank₁ out' : List ℕ) {ws' bank' : List ℕ} {outs : List (List ℕ)} → length bank ≡ 136 → length out ≡ 11 → StepIs ws bank out r ws₁ bank₁ out' → BankCalls ws₁ bank₁ outs ws' bank'
      → BankCalls ws bank (out' ∷ outs) ws' bank'

-- the words of the first n answers: the entries, then the end for ever
unfoldable pub answered : (n : ℕ) → List Entry → End → List (List ℕ)
answered n es e = map answer_words (answers n es e)

-- the bank's words after n answers; what a refused load has set is set by the first call that answers the end, and by no later one
unfoldable pub bank_words_to : ℕ → List Entry → List Entry → List ℕ → List ℕ
bank_words_to zero es left bank = bank
bank_words_to (suc n) [] left bank = bank_words_to n [] [] (words_after bank left)
bank_words_to (suc n) (x ∷ es) left bank = bank_words_to n es left (words_step bank x)

-- ---- after the end neither state nor bank changes

-- words of a planner that is over
pub record Ended (ws : List ℕ) (x : End) : Type 0 where
  pub verdict : Verdict
  pub counts : Counts
  pub words : WordsOf (planner_at (course.Over verdict) counts) ws
  pub end : x ≡ end_with counts verdict

pub record Stays (ws bank : List ℕ) (x : End) (r : ℕ) (ws' bank' out' : List ℕ) : Type 0 where
  pub answer : r ≡ 0
  pub same_state : ws' ≡ ws
  pub same_bank : bank' ≡ bank
  pub out : out' ≡ end_words x
