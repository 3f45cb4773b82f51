-- A planner's numbers, and what is known of every planner. Assumes nothing.
use Rattle.std.specs.Prelude.{ℕ, ◌+◌, ◌^◌, ◌≤◌}
use Rattle.copy.specs.Walk as walk
use Rattle.copy.specs.Kept.{left_copy}
use Rattle.loads.specs.Sound.{SoundAt, left_at}
use Rattle.words.specs.declared.count.Counts.{Counts}
use Rattle.words.specs.Counts.{Countable}
use Rattle.planner.specs.declared.types.Course.{Course}
use Rattle.planner.specs.declared.types.Course.TheVariants as course

-- where a plan stands, and the counts of what was given
pub record Planner : Type 0 where
  pub course : Course
  pub counts : Counts

abbrev pub planner_at : Course → Counts → Planner
planner_at w n = record { course = w; counts = n }

-- the ranges of a course, and how many entries it has at the most
abbrev pub SoundCourse : Course → Type 0
SoundCourse (course.Copy s p) = walk.SoundAt s p
SoundCourse (course.Scaled s p) = SoundAt s p
SoundCourse (course.Over v) = Unit {0}

abbrev pub left_course : Course → ℕ
left_course (course.Copy s p) = left_copy s p
left_course (course.Scaled s p) = left_at s p
left_course (course.Over v) = 0

-- what holds of every planner in memory
pub record Sound (p : Planner) : Type 0 where
  pub course : SoundCourse p.course
  pub counts : Countable p.counts
  pub few : p.counts.entries + left_course p.course ≤ 2 ^ 40
