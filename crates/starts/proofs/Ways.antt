-- Each way that a scaled plan may start, by the tests of its frame and its strips; and a fresh planner by what the checks gave.
-- Assumes nothing.
use Rattle.std.specs.Prelude.{◌≡◌, Ok, Err, true, false, List, ℕ}
use Rattle.object.specs.declared.types.ObjBg.{ObjBg}
use Rattle.object.specs.declared.types.Scissor.{Scissor}
use Rattle.object.specs.declared.types.Verdict.{Verdict}
use Rattle.object.specs.declared.types.Verdict.TheVariants as verdict
use Rattle.object.specs.declared.types.Background.TheVariants as background
use Rattle.checks.specs.Check.{checked_of}
use Rattle.plan.specs.declared.types.Scaled.{Scaled}
use Rattle.plan.specs.declared.types.Start.{Start}
use Rattle.plan.specs.Request.{Request}
use Rattle.plan.specs.Out.{yield, refuse, plan_out}
use Rattle.plan.specs.Scaled.{clip_of, scaled_empty, start_of, scaled_of, slices_bad, first_of, scaled_plan}
use Rattle.plan.specs.Whole.{scaled_out}
use Rattle.scaled.specs.Range.{StartIn}
use Rattle.first.specs.Near.{Near}
use Rattle.loads.specs.Coming.{Reached}
use Rattle.loads.specs.Sound.{Reaches}
use Rattle.words.specs.Counts.{zero_counts}
use Rattle.setup.specs.Parts.{parts_of, set_up_of}
use Rattle.setup.proofs.Laws.{empty_is, bad_is}
use Rattle.planner.specs.declared.types.Course.{Course}
use Rattle.planner.specs.declared.types.Course.TheVariants as course
use Rattle.planner.specs.Coming.{StartsCopy, StartsScaled, Fresh, course_of}
use Rattle.starts.specs.Start as start

abbrev pub strips_of : ObjBg → Scissor → (mode address : ℕ) → Scaled
strips_of bg s mode address = scaled_of bg mode address (clip_of bg s) (start_of bg (clip_of bg s))

-- D "then an empty frame answers 0 with no entries, then 6", by the tests
pub out_empty : (bg : ObjBg) (q : Request) → scaled_empty (clip_of bg q.scissor) ≡ true → scaled_out bg q ≡ yield tt
unfolding scaled_out
out_empty bg q t = rw (t, scaled_out)

pub out_bad : (bg : ObjBg) (q : Request) → scaled_empty (clip_of bg q.scissor) ≡ false → slices_bad (strips_of bg q.scissor q.mode q.address) ≡ true → scaled_out bg q ≡ refuse verdict.Slices
unfolding scaled_out
out_bad bg q t u = rw (t, u, scaled_out)

pub out_scaled : (bg : ObjBg) (q : Request) → scaled_empty (clip_of bg q.scissor) ≡ false → slices_bad (strips_of bg q.scissor q.mode q.address) ≡ false
    → scaled_out bg q ≡ scaled_plan (strips_of bg q.scissor q.mode q.address) (clip_of bg q.scissor) (first_of (strips_of bg q.scissor q.mode q.address) (start_of bg (clip_of bg q.scissor)))
unfolding scaled_out
out_scaled bg q t u = rw (t, u, scaled_out)

module _ (bg : ObjBg) (s : Scissor) (mode address : ℕ) where
  pub scaled_none : scaled_empty (clip_of bg s) ≡ true → StartsScaled bg s mode address (course.Over verdict.Finished)
  scaled_none t = start.scaled_over bg s mode address verdict.Finished (empty_is bg s mode address t).is

  pub scaled_bad : scaled_empty (clip_of bg s) ≡ false → slices_bad (strips_of bg s mode address) ≡ true → StartsScaled bg s mode address (course.Over verdict.Slices)
  scaled_bad t u = start.scaled_over bg s mode address verdict.Slices (bad_is bg s mode address t u).is

  set_is : scaled_empty (clip_of bg s) ≡ false → slices_bad (strips_of bg s mode address) ≡ false → Ok (parts_of bg s mode address) ≡ set_up_of bg s mode address
  unfolding set_up_of
  set_is t u = rw (t, u)

  pub scaled_begins : scaled_empty (clip_of bg s) ≡ false → slices_bad (strips_of bg s mode address) ≡ false → (r : Reached)
      → Reaches (plan_out (scaled_plan (strips_of bg s mode address) (clip_of bg s) (first_of (strips_of bg s mode address) (start_of bg (clip_of bg s))))) 16384 r → StartsScaled bg s mode address (course_of r)
  scaled_begins t u r g = start.scaled_begins bg s mode address (parts_of bg s mode address) (set_is t u) r g

-- a fresh planner, by what the checks say
module _ (bytes : List ℕ) (opcode : ℕ) (s : Scissor) (mode address : ℕ) where
  pub fresh_refused : (v : Verdict) → checked_of 4 bytes opcode s ≡ Err v → Fresh bytes opcode s mode address (record { course = course.Over v; counts = zero_counts })
  fresh_refused v e = start.fresh_from bytes opcode s mode address (course.Over v) (start.starts_refused bytes opcode s mode address v e)

  pub fresh_copy : (bg : ObjBg) (r : Course) → checked_of 4 bytes opcode s ≡ Ok (background.Copy bg) → StartsCopy bg s address r → Fresh bytes opcode s mode address (record { course = r; counts = zero_counts })
  fresh_copy bg r e g = start.fresh_from bytes opcode s mode address r (start.starts_copy bytes opcode s mode address bg r e g)

  pub fresh_scaled : (bg : ObjBg) (r : Course) → checked_of 4 bytes opcode s ≡ Ok (background.Scaled bg) → StartsScaled bg s mode address r → Fresh bytes opcode s mode address (record { course = r; counts = zero_counts })
  fresh_scaled bg r e g = start.fresh_from bytes opcode s mode address r (start.starts_scaled bytes opcode s mode address bg r e g)

-- a start in an image is near enough for the first strip
pub near : {bg : ObjBg} {i : Start} → StartIn bg i → Near i
near s = record { image_y = s.image_y; origin = s.origin }
