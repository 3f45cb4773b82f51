-- A planner as 39 words, and the planner of such words.
-- Assumes nothing.
use Rattle.std.specs.Prelude.{◌≡◌, Bool, cond, ◌&&◌, List, [], ◌∷◌, ℕ, ltb, eqb, get_or, Option, Some, None}
use Rattle.object.specs.declared.types.Verdict.{Verdict}
use Rattle.object.specs.declared.types.Verdict.TheVariants as verdict
use Rattle.checks.specs.Check.{verdict_number}
use Rattle.copy.specs.declared.types.Due.TheVariants as due
use Rattle.copy.specs.declared.types.Stage.TheVariants as stage
use Rattle.copy.specs.Walk.{start_at}
use Rattle.copy.specs.Kept.{left_copy}
use Rattle.loads.specs.Sound.{left_at}
use Rattle.words.specs.declared.count.Counts.{Counts}
use Rattle.planner.specs.declared.types.Course.{Course}
use Rattle.planner.specs.declared.types.Course.TheVariants as course
use Rattle.planner.specs.Planner.{Planner}
use Rattle.planner.specs.Planner.{Sound}
use Rattle.planner.specs.Planner.{planner_at}
use Rattle.stored_fields.specs.Test.{counts_test}
use Rattle.stored_copy.specs.Course.{copy_words, copy_from, copy_test, place_test}
use Rattle.stored_copy.specs.Course as copied
use Rattle.stored_scaled.specs.Course.{scaled_words, FitsPlace, stage_test}
use Rattle.stored_scaled.specs.Course as passed

-- ---- a planner's words: word 0 is the stage, words 1 to 4 the counts, the rest is the course's

unfoldable pub over_words : Verdict → Counts → List ℕ
over_words v n =
    0 ∷ n.entries ∷ n.rectangles ∷ n.words ∷ n.line
    ∷ verdict_number v ∷ 0 ∷ 0 ∷ 0 ∷ 0 ∷ 0 ∷ 0 ∷ 0 ∷ 0 ∷ 0 ∷ 0 ∷ 0 ∷ 0 ∷ 0 ∷ 0 ∷ 0 ∷ 0 ∷ 0 ∷ 0 ∷ 0 ∷ 0 ∷ 0 ∷ 0 ∷ 0 ∷ 0 ∷ 0 ∷ 0 ∷ 0 ∷ 0 ∷ 0 ∷ 0 ∷ 0 ∷ 0 ∷ 0 ∷ []

abbrev pub course_words : Course → Counts → List ℕ
course_words (course.Copy s p) n = copy_words s p n
course_words (course.Scaled s p) n = scaled_words s p n
course_words (course.Over v) n = over_words v n

abbrev pub stored_of : Planner → List ℕ
stored_of p = course_words p.course p.counts

-- its signed numbers have 64 bits, as those of every planner in memory do
abbrev pub FitsCourse : Course → Type 0
FitsCourse (course.Copy s p) = Unit {0}
FitsCourse (course.Scaled s p) = FitsPlace p
FitsCourse (course.Over v) = Unit {0}

pub record StoredIs (p : Planner) (ws : List ℕ) : Type 0 where
  pub is : ws ≡ stored_of p
  pub fits : FitsCourse p.course

-- the words of a planner that a step may be taken of
pub record WordsOf (p : Planner) (ws : List ℕ) : Type 0 where
  pub stored : StoredIs p ws
  pub sound : Sound p

-- what words give: the planner whose words they are; nothing, exactly where they are no sound planner's
abbrev pub LoadedIs : List ℕ → Option Planner → Type 0
LoadedIs ws (Some p) = WordsOf p ws
LoadedIs ws None = (p : Planner) → WordsOf p ws → ⊥

-- ---- the planner of any words, and the test that it is sound

-- what is no number of a verdict is the last
abbrev pub verdict_from : ℕ → Verdict
verdict_from k =
    cond (eqb k 0) verdict.Finished (cond (eqb k 1) verdict.Opcode (cond (eqb k 2) verdict.Short (cond (eqb k 3) verdict.Scissor
    (cond (eqb k 4) verdict.Object (cond (eqb k 5) verdict.Copy (cond (eqb k 6) verdict.Slices (cond (eqb k 7) verdict.TooBig
    (cond (eqb k 8) verdict.Piece (cond (eqb k 9) verdict.Address verdict.Full)))))))))

abbrev pub counts_from : List ℕ → Counts
counts_from ws = record { entries = get_or ws 1 0; rectangles = get_or ws 2 0; words = get_or ws 3 0; line = get_or ws 4 0 }

unfoldable pub course_from : List ℕ → Course
course_from ws =
    cond (eqb (get_or ws 0 0) 0) (course.Over (verdict_from (get_or ws 5 0)))
    (cond (eqb (get_or ws 0 0) 1) (course.Copy (stage.Strip due.Image) (start_at (copy_from ws)))
    (cond (ltb (get_or ws 0 0) 8) (course.Copy (copied.stage_from (get_or ws 0 0)) (copied.place_from ws))
    (course.Scaled (passed.stage_from (get_or ws 0 0)) (passed.place_from ws))))

abbrev pub planner_from : List ℕ → Planner
planner_from ws = planner_at (course_from ws) (counts_from ws)

unfoldable pub sound_test : List ℕ → Bool
sound_test ws =
    cond (eqb (get_or ws 0 0) 0) (counts_test (counts_from ws) 0)
    (cond (eqb (get_or ws 0 0) 1) (copy_test ws && counts_test (counts_from ws) 5242881)
    (cond (ltb (get_or ws 0 0) 8) (place_test ws && counts_test (counts_from ws) (left_copy (copied.stage_from (get_or ws 0 0)) (copied.place_from ws)))
    (stage_test (passed.stage_from (get_or ws 0 0)) ws && counts_test (counts_from ws) (left_at (passed.stage_from (get_or ws 0 0)) (passed.place_from ws)))))
