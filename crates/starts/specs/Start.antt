-- Where a plan starts: each refusal, an empty frame, and the first place of each mode. D is docs/SPECIFICATION.md, section 4.
-- Assumes nothing.
use Rattle.std.specs.Prelude.{◌≡◌, refl, Result, Ok, Err, true, false, List, [], ℕ}
use Rattle.std.proofs.Math.Path.{sym, ap}
use Rattle.std.proofs.Common.{◌∙◌}
use native.Mathlib.Omega.{arith}
use Rattle.object.specs.declared.types.ObjBg.{ObjBg}
use Rattle.object.specs.declared.types.Scissor.{Scissor}
use Rattle.object.specs.declared.types.Verdict.{Verdict}
use Rattle.object.specs.declared.types.Verdict.TheVariants as verdict
use Rattle.object.specs.declared.types.Background.TheVariants as background
use Rattle.checks.specs.Check.{checked_of}
use Rattle.plan.specs.declared.types.End.{End}
use Rattle.plan.specs.Request.{Request}
use Rattle.plan.specs.Out.{Plan, yield, plan_out}
use Rattle.plan.specs.Next.{ended}
use Rattle.plan.specs.Copy.{copy_of, copy_empty, copy_plan}
use Rattle.plan.specs.Scaled.{scaled_plan}
use Rattle.plan.specs.Whole.{copy_out, checked_out, plan_with, plan_of}
use Rattle.plan.specs.Sound.{SoundCopy}
use Rattle.plan.specs.Run.{end_of}
use Rattle.plan.specs.Steps.{Coming}
use Rattle.copy.specs.declared.types.Place.{Place}
use Rattle.copy.specs.declared.types.Stage.{Stage}
use Rattle.copy.specs.declared.types.Stage.TheVariants as stage
use Rattle.copy.specs.declared.types.Due.TheVariants as due
use Rattle.copy.specs.Walk.{start_at, SoundStart}
use Rattle.copy.specs.Coming.{coming_copy, copy_start}
use Rattle.copy.specs.Kept.{start_sound, start_left}
use Rattle.loads.specs.Coming.{Reached}
use Rattle.loads.specs.Sound.{Reaches}
use Rattle.words.specs.declared.count.Counts.{Counts}
use Rattle.words.specs.Counts.{zero_counts, counted_all, end_with}
use Rattle.words.proofs.CountsLaws.{zero_countable, end_of_lem}
use Rattle.setup.specs.declared.parts.SetUp.{SetUp}
use Rattle.setup.specs.Parts.{set_up_of}
use Rattle.setup.proofs.Laws.{plan_by, scaled_by}
use Rattle.planner.specs.declared.types.Course.{Course}
use Rattle.planner.specs.declared.types.Course.TheVariants as course
use Rattle.planner.specs.Planner.{Planner}
use Rattle.planner.specs.Coming.{coming_course, coming_from, coming, Starts, StartsCopy, StartsScaled, Fresh, course_of, request_of}

-- where a plan starts, or that it ends at a verdict before any entry
abbrev pub course_or : Result Course Verdict → Course
course_or (Ok c) = c
course_or (Err v) = course.Over v

over_starts : (plan : Plan) (v : Verdict) → ended [] v ≡ plan → Starts plan (course.Over v)
over_starts plan v e = record { is = e; first = tt; sound = tt; left = omega arith }

-- D "then an empty frame answers 0 with no entries, then 6", by the tests
out_none : (bg : ObjBg) (q : Request) → copy_empty (copy_of bg q.scissor q.address) ≡ true → copy_out bg q ≡ yield tt
unfolding copy_out
out_none bg q t = rw (t, copy_out)

out_copy : (bg : ObjBg) (q : Request) → copy_empty (copy_of bg q.scissor q.address) ≡ false → copy_out bg q ≡ copy_plan (copy_of bg q.scissor q.address)
unfolding copy_out
out_copy bg q t = rw (t, copy_out)

module _ (bg : ObjBg) (s : Scissor) (address : ℕ) where
  pub copy_none : copy_empty (copy_of bg s address) ≡ true → StartsCopy bg s address (course.Over verdict.Finished)
  copy_none t = λ bytes opcode mode. over_starts _ verdict.Finished (sym (ap plan_out (out_none bg (request_of bytes opcode s mode address) t)))

  pub copy_begins : SoundCopy (copy_of bg s address) → copy_empty (copy_of bg s address) ≡ false → StartsCopy bg s address (course.Copy (stage.Strip due.Image) (start_at (copy_of bg s address)))
  copy_begins h t =
      λ bytes opcode mode.
      record {
        is = copy_start (copy_of bg s address) ∙ sym (ap plan_out (out_copy bg (request_of bytes opcode s mode address) t));
        first = refl;
        sound = start_sound (copy_of bg s address) h;
        left = start_left (copy_of bg s address);
      }

module _ (bg : ObjBg) (s : Scissor) (mode address : ℕ) where
  pub scaled_over : (v : Verdict) → Err v ≡ set_up_of bg s mode address → StartsScaled bg s mode address (course.Over v)
  scaled_over v e = λ bytes opcode. over_starts _ v (ap plan_by e ∙ sym (scaled_by bg (request_of bytes opcode s mode address)))

  pub scaled_begins : (p : SetUp) → Ok p ≡ set_up_of bg s mode address → (r : Reached) → Reaches (plan_out (scaled_plan p.scaled p.clip p.first)) 16384 r → StartsScaled bg s mode address (course_of r)
  scaled_begins p e (Ok q) g =
      let l = g.left in
      λ bytes opcode. record { is = g.is ∙ ap plan_by e ∙ sym (scaled_by bg (request_of bytes opcode s mode address)); first = tt; sound = g.sound; left = omega arith }
  scaled_begins p e (Err v) g = λ bytes opcode. over_starts _ v (g.is ∙ ap plan_by e ∙ sym (scaled_by bg (request_of bytes opcode s mode address)))

-- a fresh planner, by what the checks say
module _ (bytes : List ℕ) (opcode : ℕ) (s : Scissor) (mode address : ℕ) where
  abbrev asked : Request
  asked = request_of bytes opcode s mode address

  pub fresh_from : (r : Course) → Starts (plan_of asked) r → Fresh bytes opcode s mode address (record { course = r; counts = zero_counts })
  unfolding coming
  fresh_from r g =
      let l = g.left in
      record {
        coming = ap (λ (p : Plan). coming_from p zero_counts) g.is ∙ ap (λ (e : End). record { entries = (plan_of asked).entries; left = (plan_of asked).left; end = e }) (end_of_lem (plan_of asked));
        counts = refl;
        first = g.first;
        sound = record { course = g.sound; counts = zero_countable; few = omega arith };
      }

  pub starts_refused : (v : Verdict) → checked_of 4 bytes opcode s ≡ Err v → Starts (plan_of asked) (course.Over v)
  unfolding plan_of plan_with checked_out
  starts_refused v e = over_starts _ v (rw e)

  pub starts_copy : (bg : ObjBg) (r : Course) → checked_of 4 bytes opcode s ≡ Ok (background.Copy bg) → StartsCopy bg s address r → Starts (plan_of asked) r
  unfolding plan_of plan_with checked_out
  starts_copy bg r e g = rw e (g bytes opcode mode)

  pub starts_scaled : (bg : ObjBg) (r : Course) → checked_of 4 bytes opcode s ≡ Ok (background.Scaled bg) → StartsScaled bg s mode address r → Starts (plan_of asked) r
  unfolding plan_of plan_with checked_out
  starts_scaled bg r e g = rw e (g bytes opcode)

  -- of a copy plan, all of it is to come from its frame
  module _ (p : Planner) (st : Stage) (place : Place) (e : p.course ≡ course.Copy st place) (f : Fresh bytes opcode s mode address p) where
    copied : SoundStart place
    copied = let at = rw e at f.first in rw at at (rw e at f.sound.course)

    pub copied_sound : SoundCopy place.copy
    copied_sound = copied.copy

    copied_coming : coming_course p.course ≡ plan_out (copy_plan place.copy)
    copied_coming =
        let at = rw e at f.first in
        ap coming_course e ∙ ap (λ (t : Stage). coming_copy t place) at ∙ ap (coming_copy (stage.Strip due.Image)) copied.is ∙ copy_start place.copy

    pub copied_end : end_of (plan_out (copy_plan place.copy)) ≡ end_of (plan_of asked)
    unfolding coming
    copied_end =
        ap end_of (sym copied_coming)
        ∙ sym (end_of_lem (coming_course p.course))
        ∙ ap (λ (n : Counts). end_with (counted_all n (coming_course p.course).entries) (coming_course p.course).verdict) (sym f.counts)
        ∙ ap (λ (c : Coming). c.end) f.coming
