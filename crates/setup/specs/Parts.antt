-- The set-up of a scaled plan: its parts by their definitions, or the verdict of a plan that has no pass. D is docs/SPECIFICATION.md, section 4.
-- Assumes nothing.
use Rattle.std.specs.Prelude.{◌≡◌, cond, false, ℕ, Result, Ok, Err, IfOk}
use Rattle.object.specs.declared.types.ObjBg.{ObjBg}
use Rattle.object.specs.declared.types.Scissor.{Scissor}
use Rattle.object.specs.declared.types.Verdict.{Verdict}
use Rattle.object.specs.declared.types.Verdict.TheVariants as verdict
use Rattle.plan.specs.Scaled.{clip_of, scaled_empty, start_of, scaled_of, slices_bad, first_of}
use Rattle.scaled.specs.Range.{Usable, ClipIs, StartIs, ScaledIs}
use Rattle.first.specs.Near.{FirstIs}
use Rattle.setup.specs.declared.parts.SetUp.{SetUp}

-- the four parts, each by its definition
abbrev pub parts_of : ObjBg → Scissor → (mode address : ℕ) → SetUp
parts_of bg s mode address =
    let c = clip_of bg s in
    let i = start_of bg c in
    let z = scaled_of bg mode address c i in
    record { clip = c; start = i; scaled = z; first = first_of z i }

-- D "then an empty frame answers 0 with no entries, then 6"
unfoldable pub set_up_of : ObjBg → Scissor → (mode address : ℕ) → Result SetUp Verdict
set_up_of bg s mode address =
    let p = parts_of bg s mode address in
    cond (scaled_empty p.clip) (Err verdict.Finished) (cond (slices_bad p.scaled) (Err verdict.Slices) (Ok p))

-- what is known of the parts of a plan that has a pass
pub record PartsAre (bg : ObjBg) (s : Scissor) (mode address : ℕ) (p : SetUp) : Type 0 where
  pub usable : Usable bg
  pub clip : ClipIs bg s p.clip
  pub start : StartIs bg p.clip p.start
  pub scaled : ScaledIs bg mode address p.clip p.start p.scaled
  pub first : FirstIs p.scaled p.start p.first
  pub filled : scaled_empty p.clip ≡ false
  pub good : slices_bad p.scaled ≡ false

pub record SetUpIs (bg : ObjBg) (s : Scissor) (mode address : ℕ) (r : Result SetUp Verdict) : Type 0 where
  pub is : r ≡ set_up_of bg s mode address
  pub parts : IfOk r (PartsAre bg s mode address)
