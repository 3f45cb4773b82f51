-- Demand 3's numbers of each rectangle of a scaled plan, and what the code has of them between two rectangles. D is docs/SPECIFICATION.md, section 11.
-- Assumes nothing.
use Rattle.std.specs.Prelude.{◌≡◌, Bool, true, false, cond, not, ◌&&◌, List, [], ◌∷◌, ℕ, ◌+◌, ◌*◌, ◌-◌, ◌/◌, ◌%◌, ◌≤◌, eqb, ℤ, pos, ◌+ℤ◌, ◌-ℤ◌, Result, Ok, Err, Option, Some, None}
use Rattle.std.specs.Int.Signed.{le_z}
use Rattle.signed.specs.Diff.{up}
use Rattle.measures.specs.Measure.{quarters, thirty_seconds, texels, sampled_by}
use Rattle.measures.specs.Range.{Below}
use Rattle.object.specs.declared.types.ObjBg.{ObjBg}
use Rattle.object.specs.declared.types.Scissor.{Scissor}
use Rattle.checks.specs.Check.{Checked}
use Rattle.object.specs.declared.types.Background.TheVariants as background
use Rattle.checks.specs.Check.{checked_of}
use Rattle.plan.specs.declared.types.Entry.{Entry}
use Rattle.plan.specs.declared.types.Entry.TheVariants as entry
use Rattle.plan.specs.declared.types.Clip.{Clip}
use Rattle.plan.specs.declared.types.Start.{Start}
use Rattle.plan.specs.declared.types.Scaled.{Scaled}
use Rattle.plan.specs.declared.types.First.{First}
use Rattle.plan.specs.Request.{Request}
use Rattle.plan.specs.Scaled.{clip_of, scaled_empty, start_of, scaled_of, slices_bad, first_of}
use Rattle.plan.specs.Sound.{SoundFirst}
use Rattle.plan.specs.Whole.{plan_of}
use Rattle.plan.specs.Demand as demand
use Rattle.plan.specs.Demand.{Drift, drift_of, strips, strips_of, aheads}
use Rattle.small.specs.Small.{Signed16, AllSmall}
use Rattle.ruler.specs.declared.types.Ruler.{Ruler}
use Rattle.ruler.specs.declared.types.Place.{Place}
use Rattle.ruler.specs.declared.types.Begun.{Begun}
use Rattle.ruler.specs.declared.types.Over.{Over}
use Rattle.ruler.specs.Ruler.{SoundRuler}

-- ---- what a plan has

-- D "each strip's k", "d = sampled − exact + 256 × image_h × m": of each rectangle of a scaled plan, in their order; a copy plan has no drift
unfoldable pub drifts_of : Request → List demand.Begun
drifts_of q = cond (eqb q.opcode 9) (aheads (drift_of q) 0 (strips_of (drift_of q)) (plan_of q).entries) []

-- a frame that is not empty, with strips that verdict 6 passes
unfoldable pub scaled_set : ObjBg → Scissor → (mode address : ℕ) → Bool
scaled_set bg s mode address = not (scaled_empty (clip_of bg s)) && not (slices_bad (scaled_of bg mode address (clip_of bg s) (start_of bg (clip_of bg s))))

abbrev pub checked_set : Checked → Request → Bool
checked_set (Ok (background.Scaled bg)) q = scaled_set bg q.scissor q.mode q.address
checked_set (Ok (background.Copy bg)) q = false
checked_set (Err v) q = false

-- whether a scaled plan is set up: the checks pass it, its frame is not empty, and it has strips
unfoldable pub set_up : Request → Bool
set_up q = checked_set (checked_of 4 q.bytes q.opcode q.scissor) q

-- ---- what the code has of it

abbrev pub ruler_from : ObjBg → Clip → Start → Scaled → First → Ruler
ruler_from bg c i z f =
    record {
      h = z.scale_h.0;
      image_h = quarters bg.image_h;
      source_rows = z.source_rows;
      image_rows = z.image_rows;
      frame_rows = z.frame_rows;
      first_rows = pos z.image_rows -ℤ f.slice_rows;
      carry = i.carry;
      slice = f.slice;
      count = f.count;
      lines = texels (quarters c.height);
      start = thirty_seconds bg.image_y + sampled_by (quarters c.top) z.scale_h.0;
      origin = bg.image_y_orig.0;
    }

abbrev pub strips_at : ObjBg → Scissor → (mode address : ℕ) → Scaled
strips_at bg s mode address = scaled_of bg mode address (clip_of bg s) (start_of bg (clip_of bg s))

abbrev pub first_at : ObjBg → Scissor → (mode address : ℕ) → First
first_at bg s mode address = first_of (strips_at bg s mode address) (start_of bg (clip_of bg s))

abbrev pub ruler_of : ObjBg → Scissor → (mode address : ℕ) → Ruler
ruler_of bg s mode address = ruler_from bg (clip_of bg s) (start_of bg (clip_of bg s)) (strips_at bg s mode address) (first_at bg s mode address)

-- D "image_h a multiple of 4", "The start is at or below the origin"
abbrev pub apt_in : Ruler → Bool
apt_in r = eqb (r.image_h % 4) 0 && le_z r.origin (pos r.start)

abbrev pub place_of : Ruler → Place
place_of r = record { fuel = 65 * r.lines; k = r.slice; left = r.lines; count = up r.count; earlier = 0 }

-- the strips that draw from a place on
abbrev pub strips_from : (f : ℕ) → Place → List ℤ
strips_from f p = strips p.fuel f p.k (pos p.left) (pos p.count)

-- the rectangles of entries to come
abbrev pub drifts_from : Ruler → Place → List Entry → List demand.Begun
drifts_from r p es = aheads r p.earlier (strips_from r.frame_rows p) es

-- after a pass without a line
abbrev pub idle_from : (f : ℕ) → Place → Place
idle_from f p = record { fuel = p.fuel - 1; k = p.k +ℤ pos 1; left = p.left; count = p.count + f; earlier = p.earlier }

-- after a strip that draws, its rectangle of so many lines
abbrev pub drawn_from : (f : ℕ) → Place → (lines : ℕ) → Place
drawn_from f p lines = record { fuel = p.fuel - 1; k = p.k +ℤ pos 1; left = p.left - p.count / 1024; count = p.count % 1024 + f; earlier = p.earlier + lines }

-- ---- ranges

-- what it is made of
pub record MadeIn (bg : ObjBg) (c : Clip) (i : Start) (z : Scaled) (f : First) : Type 0 where
  pub image_y : Below 16 bg.image_y.0
  pub top : Below 16 c.top.0
  pub first : SoundFirst z f
  pub sound : SoundRuler (ruler_from bg c i z f)

-- the number of a strip: `since` passes after strip `slice`
pub record StripOf (r : Ruler) (k : ℤ) : Type 0 where
  pub since : ℕ
  pub at : k ≡ r.slice +ℤ pos since
  pub few : since ≤ 66495

-- a place of this ruler's plan, by the same count, with no more passes left than the plan has
pub record SoundPlace (r : Ruler) (p : Place) : Type 0 where
  pub since : ℕ
  pub at : p.k ≡ r.slice +ℤ pos since
  pub few : since + p.fuel ≤ 66495

-- a rectangle's numbers, as every plan has them
abbrev pub RectIn : (lry : ℕ) → (ult : ℤ) → (row : ℕ) → Type 0
RectIn lry ult row = (lry ≤ 65535) × ((row ≤ 65535) × Signed16 ult)

-- ---- what the functions promise

-- the strip that draws next, after `idle` passes without a line
pub record NextAt (f : ℕ) (p s : Place) : Type 0 where
  pub strips : strips_from f p ≡ s.k ∷ strips_from f (drawn_from f s 0)
  pub idle : ℕ
  pub at : s.k ≡ p.k +ℤ pos idle
  pub few : idle + s.fuel ≤ p.fuel
  pub fuel : 1 ≤ s.fuel
  pub earlier : s.earlier ≡ p.earlier

abbrev pub NextIs : (f : ℕ) → Place → Option Place → Type 0
NextIs f p (Some s) = NextAt f p s
NextIs f p None = strips_from f p ≡ []

abbrev pub Taken : Type 0
Taken = Result (Option (Begun × Place)) Over

-- the rectangles of an entry and of those after it, by what the entry is
abbrev pub taken_of : Ruler → Place → Taken → List Entry → List demand.Begun
taken_of r p (Ok (Some b)) es = b.0 ∷ drifts_from r b.1 es
taken_of r p (Ok None) es = drifts_from r p es
taken_of r p (Err o) es = []

abbrev pub SoundTaken : Ruler → Taken → Type 0
SoundTaken r (Ok (Some b)) = SoundPlace r b.1
SoundTaken r (Ok None) = Unit {0}
SoundTaken r (Err o) = Unit {0}

pub record TakenIs (r : Ruler) (p : Place) (e : Entry) (t : Taken) : Type 0 where
  pub is : (es : List Entry) → drifts_from r p (e ∷ es) ≡ taken_of r p t es
  pub sound : SoundTaken r t

-- the same of a rectangle, whatever its other numbers are
abbrev pub RectIs : Ruler → Place → (uly lry : ℕ) → (ult : ℤ) → (row : ℕ) → Taken → Type 0
RectIs r p uly lry ult row t = (i ulx lrx : ℕ) (uls dsdx dtdy : ℤ) → TakenIs r p (entry.Rect i ulx uly lrx lry uls ult dsdx dtdy row) t

pub record RulerScaled (bg : ObjBg) (s : Scissor) (mode address : ℕ) (r : Ruler) : Type 0 where
  pub set : scaled_set bg s mode address ≡ true
  pub is : r ≡ ruler_of bg s mode address
  pub sound : SoundRuler r

abbrev pub FoundScaled : ObjBg → Scissor → (mode address : ℕ) → Option Ruler → Type 0
FoundScaled bg s mode address (Some r) = RulerScaled bg s mode address r
FoundScaled bg s mode address None = scaled_set bg s mode address ≡ false

-- what measures a request's plan, or that the plan has nothing to measure
pub record RulerIs (q : Request) (r : Ruler) : Type 0 where
  pub set : set_up q ≡ true
  pub opcode : q.opcode ≡ 9
  pub is : r ≡ drift_of q
  pub sound : SoundRuler r
  pub small : AllSmall (plan_of q).entries

abbrev pub FoundIs : Request → Option Ruler → Type 0
FoundIs q (Some r) = RulerIs q r
FoundIs q None = (set_up q ≡ false) × (drifts_of q ≡ [])
