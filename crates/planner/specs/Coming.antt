-- What a planner has still to come: the rest of its plan, and the end with the counts so far. A step's promise is that it answers the first of that and leaves the rest.
-- Assumes nothing.
use Rattle.std.specs.Prelude.{◌≡◌, Result, Ok, Err, Option, IfSome, List, [], ◌∷◌, ℕ, ◌≤◌}
use Rattle.std.specs.Option.{option_to_list}
use Rattle.object.specs.declared.types.ObjBg.{ObjBg}
use Rattle.object.specs.declared.types.Scissor.{Scissor}
use Rattle.object.specs.declared.types.Verdict.{Verdict}
use Rattle.tile.specs.declared.bank.Bank.{Bank}
use Rattle.plan.specs.declared.types.Entry.{Entry}
use Rattle.plan.specs.Steps.{Answer}
use Rattle.plan.specs.Request.{Request}
use Rattle.plan.specs.Out.{Plan, plan_out}
use Rattle.plan.specs.Next.{ended}
use Rattle.plan.specs.Sound.{Narrow, EntryIn}
use Rattle.plan.specs.Whole.{copy_out, scaled_out, plan_of}
use Rattle.plan.specs.Steps.{Coming, coming_of, next_of, answer_of, bank_next}
use Rattle.copy.specs.declared.types.Due.TheVariants as due
use Rattle.copy.specs.declared.types.Stage.TheVariants as stage
use Rattle.copy.specs.Coming.{coming_copy}
use Rattle.loads.specs.Coming.{Reached, coming_scaled}
use Rattle.words.specs.declared.count.Counts.{Counts}
use Rattle.words.specs.Counts.{zero_counts, counted_of, counted_all, end_with}
use Rattle.planner.specs.declared.types.Course.{Course}
use Rattle.planner.specs.declared.types.Course.TheVariants as course
use Rattle.planner.specs.Planner.{Planner, SoundCourse, left_course, Sound}
use Rattle.planner.specs.declared.types.Stop.{Stop}
use Rattle.planner.specs.declared.types.Step.{Step}
use Rattle.planner.specs.declared.types.Stepped.{Stepped}

-- the rest of the plan
abbrev pub coming_course : Course → Plan
coming_course (course.Copy s p) = coming_copy s p
coming_course (course.Scaled s p) = coming_scaled s p
coming_course (course.Over v) = ended [] v

-- the rest of the plan, and the end that it leads to
abbrev pub coming_from : Plan → Counts → Coming
coming_from plan n = record { entries = plan.entries; left = plan.left; end = end_with (counted_all n plan.entries) plan.verdict }

unfoldable pub coming : Planner → Coming
coming p = coming_from (coming_course p.course) p.counts

-- the counts after the first of what is to come
abbrev pub counts_next : List Entry → Counts → Counts
counts_next [] n = n
counts_next (e ∷ es) n = counted_of n e

-- what a step gives: an entry, or why there is none
abbrev pub Given : Type 0
Given = Result Entry Stop

-- it is an answer, and the sizes that a refused load has set
abbrev pub answer_in : Given → Answer
answer_in (Ok e) = Ok e
answer_in (Err s) = Err s.end

abbrev pub left_in : Given → List Entry
left_in (Ok e) = []
left_in (Err s) = option_to_list s.size

-- an entry's numbers have their ranges; what a tile keeps of a size fits the tile's fields
abbrev pub GivenIn : Given → Type 0
GivenIn (Ok e) = EntryIn e
GivenIn (Err s) = IfSome s.size Narrow

-- what the refused load of a plan has set shows at its end
abbrev pub left_next : List Entry → List Entry → List Entry
left_next [] left = left
left_next (e ∷ es) left = []

-- a step gives the first of what is to come, and leaves the rest
pub record StepGives (p : Planner) (r : Step) : Type 0 where
  pub answer : answer_in r.given ≡ answer_of (coming p).entries (coming p).end
  pub left : left_in r.given ≡ left_next (coming p).entries (coming p).left
  pub ranges : GivenIn r.given
  pub rest : coming r.planner ≡ next_of (coming p).entries (coming p).left (coming p).end
  pub counts : r.planner.counts ≡ counts_next (coming p).entries p.counts
  pub over : (coming p).entries ≡ [] → r.planner.course ≡ course.Over (coming p).end.verdict
  pub sound : Sound r.planner

-- the same with a bank, which is as after it
pub record StepIs (p : Planner) (b : Bank) (r : Stepped) : Type 0 where
  pub answer : r.answer ≡ answer_of (coming p).entries (coming p).end
  pub rest : coming r.planner ≡ next_of (coming p).entries (coming p).left (coming p).end
  pub bank : r.bank ≡ bank_next (coming p).entries (coming p).left b
  pub counts : r.planner.counts ≡ counts_next (coming p).entries p.counts
  pub sound : Sound r.planner

-- an entry is given, or the end with what a refused load has set
abbrev pub give_of : Course → Counts → Entry → Step
give_of w n e = record { planner = record { course = w; counts = counted_of n e }; given = Ok e }

abbrev pub stop_of : Counts → Verdict → Option Entry → Step
stop_of n v size = record { planner = record { course = course.Over v; counts = n }; given = Err (record { size = size; end = end_with n v }) }

abbrev pub course_of : Reached → Course
course_of (Ok q) = course.Scaled q.0 q.1
course_of (Err v) = course.Over v

-- a copy plan starts before its first row, with the texture image due
abbrev pub AtStart : Course → Type 0
AtStart (course.Copy s p) = s ≡ stage.Strip due.Image
AtStart (course.Scaled s p) = Unit {0}
AtStart (course.Over v) = Unit {0}

-- a course with just a plan to come
pub record Starts (plan : Plan) (r : Course) : Type 0 where
  pub is : coming_course r ≡ plan
  pub first : AtStart r
  pub sound : SoundCourse r
  pub left : left_course r ≤ 6000000

abbrev pub request_of : List ℕ → ℕ → Scissor → (mode address : ℕ) → Request
request_of bytes opcode scissor mode address = record { bytes = bytes; opcode = opcode; scissor = scissor; mode = mode; address = address }

abbrev pub StartsCopy : ObjBg → Scissor → (address : ℕ) → Course → Type 0
StartsCopy bg scissor address r = (bytes : List ℕ) (opcode mode : ℕ) → Starts (plan_out (copy_out bg (request_of bytes opcode scissor mode address))) r

abbrev pub StartsScaled : ObjBg → Scissor → (mode address : ℕ) → Course → Type 0
StartsScaled bg scissor mode address r = (bytes : List ℕ) (opcode : ℕ) → Starts (plan_out (scaled_out bg (request_of bytes opcode scissor mode address))) r

-- a planner made fresh: the whole plan of the request is to come
pub record Fresh (bytes : List ℕ) (opcode : ℕ) (scissor : Scissor) (mode address : ℕ) (p : Planner) : Type 0 where
  pub coming : coming p ≡ coming_of (plan_of (request_of bytes opcode scissor mode address))
  pub counts : p.counts ≡ zero_counts
  pub first : AtStart p.course
  pub sound : Sound p
