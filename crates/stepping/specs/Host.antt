-- What the stepping functions leave to the host: words that have something to come, and one step of it. D is docs/SPECIFICATION.md, section 10.
-- Assumes nothing.
use Rattle.std.specs.Prelude.{◌≡◌, Bool, true, false, ◌&&◌, List, [], ◌∷◌, ℕ, eqb, length, Option, Some, None, Ok, Err}
use Rattle.plan.specs.declared.types.Entry.{Entry}
use Rattle.plan.specs.Steps.{Answer}
use Rattle.plan.specs.Whole.{plan_of}
use Rattle.plan.specs.Run.{entry_words, end_words}
use Rattle.plan.specs.Steps.{Coming, coming_of, next_of, answer_of}
use Rattle.giving.specs.Host.{words_after}
use Rattle.request.specs.Host.{host_request}
use Rattle.planner.specs.declared.types.Course.TheVariants as course
use Rattle.planner.specs.Planner.{Planner}
use Rattle.planner.specs.Coming.{coming, Given, left_in}
use Rattle.planner.specs.Planner.{planner_at}
use Rattle.stored.specs.Stored.{stored_of, WordsOf, LoadedIs}

-- a step's answer as eleven words
abbrev pub answer_words : Answer → List ℕ
answer_words (Ok e) = entry_words e
answer_words (Err x) = end_words x

-- what sets the bank at a step: the entry, or the size that a refused load has set
abbrev pub sets_in : Given → List Entry
sets_in (Ok e) = e ∷ []
sets_in (Err s) = left_in (Err s)

abbrev pub sets_next : List Entry → List Entry → List Entry
sets_next [] left = left
sets_next (e ∷ es) left = e ∷ []

-- words of a sound planner that has this to come
pub record Has (ws : List ℕ) (c : Coming) : Type 0 where
  pub planner : Planner
  pub words : WordsOf planner ws
  pub coming : coming planner ≡ c

-- a planner has moved by a step, into words: the first of what it has to come is the answer, and the words have the rest; at the end they are those of that end, whatever they were
pub record Moved (p : Planner) (bank ws' bank' out' : List ℕ) : Type 0 where
  pub out : out' ≡ answer_words (answer_of (coming p).entries (coming p).end)
  pub set : bank' ≡ words_after bank (sets_next (coming p).entries (coming p).left)
  pub has : Has ws' (next_of (coming p).entries (coming p).left (coming p).end)
  pub over : (coming p).entries ≡ [] → ws' ≡ stored_of (planner_at (course.Over (coming p).end.verdict) p.counts)

abbrev pub StepFrom : Option Planner → (ws bank out : List ℕ) → ℕ → (ws' bank' out' : List ℕ) → Type 0
StepFrom (Some p) ws bank out r ws' bank' out' = (r ≡ 0) × Moved p bank ws' bank' out'
StepFrom None ws bank out r ws' bank' out' = (r ≡ 1) × ((ws' ≡ ws) × ((bank' ≡ bank) × (out' ≡ out)))

-- a step of the planner that the words are; 1 and nothing changed where they are no sound planner's
pub record StepOf (ws bank out : List ℕ) (r : ℕ) (ws' bank' out' : List ℕ) : Type 0 where
  pub loaded : Option Planner
  pub is : LoadedIs ws loaded
  pub step : StepFrom loaded ws bank out r ws' bank' out'

-- and where there are too few or too many
abbrev pub StepWith : Bool → (ws bank out : List ℕ) → ℕ → (ws' bank' out' : List ℕ) → Type 0
StepWith true ws bank out r ws' bank' out' = StepOf ws bank out r ws' bank' out'
StepWith false ws bank out r ws' bank' out' = StepFrom None ws bank out r ws' bank' out'

abbrev pub StepIs : (ws bank out : List ℕ) → ℕ → (ws' bank' out' : List ℕ) → Type 0
StepIs ws bank out r ws' bank' out' = StepWith (eqb (length ws) 39 && (eqb (length bank) 136 && eqb (length out) 11)) ws bank out r ws' bank' out'

-- the planner of a request, with its whole plan to come; 1 and nothing changed where there are too few or too many words
abbrev pub StartWith : Bool → (object request ws : List ℕ) → ℕ → List ℕ → Type 0
StartWith true object request ws r ws' = (r ≡ 0) × Has ws' (coming_of (plan_of (host_request object request)))
StartWith false object request ws r ws' = (r ≡ 1) × (ws' ≡ ws)

abbrev pub StartIs : (object request ws : List ℕ) → ℕ → List ℕ → Type 0
StartIs object request ws r ws' = StartWith (eqb (length request) 7 && eqb (length ws) 39) object request ws r ws'
