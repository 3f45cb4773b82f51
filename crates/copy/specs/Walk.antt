-- One step of the copy walk: the entry that is due, and where the walk stands after it. D is docs/SPECIFICATION.md.
-- Assumes nothing.
use Rattle.std.specs.Prelude.{◌≡◌, Bool, true, false, cond, Result, Ok, Err, Option, [], ◌∷◌, ℕ, ◌+◌, ◌-◌, ◌*◌, ◌%◌, ◌^◌, ◌<◌, ltb, ℤ, pos, neg_ℤ}
use Rattle.signed.specs.Cast.{i16}
use Rattle.object.specs.declared.types.Verdict.TheVariants as verdict
use Rattle.measures.specs.Measure.{quarters, of_texels, rows_high}
use Rattle.tile.specs.declared.bank.Bounds.{Bounds}
use Rattle.load_tile.specs.declared.load.LoadRequest.{LoadRequest}
use Rattle.load_tile.specs.Load.{request_of}
use Rattle.plan.specs.declared.types.Copy.{Copy}
use Rattle.plan.specs.declared.types.Entry.{Entry}
use Rattle.plan.specs.declared.types.Entry.TheVariants as entry
use Rattle.plan.specs.Copy.{field, bound, strip_of, strip_row_of, strip_height_of}
use Rattle.loading.specs.Load.{answer_of}
use Rattle.plan.specs.Next.{Next}
use Rattle.plan.specs.Next.Next.{give, over}
use Rattle.plan.specs.Sound.{SoundCopy}
use Rattle.copy.specs.declared.types.Due.{Due}
use Rattle.copy.specs.declared.types.Due.TheVariants as due
use Rattle.copy.specs.declared.types.Stage.{Stage}
use Rattle.copy.specs.declared.types.Stage.TheVariants as stage
use Rattle.copy.specs.declared.types.Place.{Place}
use Rattle.copy.specs.declared.types.CopyEnd.{CopyEnd}
use Rattle.copy.specs.declared.types.CopyEnd.TheVariants as end
use Rattle.strips.specs.Strip.{Bounds as StripBounds, Rows}

-- ---- where a walk stands

-- at cell x of the row of strips at line y
abbrev pub place_at : Copy → (x y sy height : ℕ) → Place
place_at c x y sy height = record { copy = c; x = x; y = y; sy = sy; strip_height = height; strip = strip_of c x }

-- at the first cell of the row of strips at line y
abbrev pub row_at : Copy → ℕ → Place
row_at c y = place_at c 0 y (strip_row_of c y) (strip_height_of c y)

-- before the first row: nothing lies to its right, and the row below is at line 0
abbrev pub start_at : Copy → Place
start_at c =
    record {
      copy = c;
      x = c.width;
      y = 0;
      sy = 0;
      strip_height = 0;
      strip = record { strip_width = 0; aligned_left = 0; offset = 0; load_width = 0; line = 0 };
    }

-- what each step asks of a strip's place
pub record SoundPlace (p : Place) : Type 0 where
  pub copy : SoundCopy p.copy
  pub x : p.x < p.copy.width
  pub y : p.y < p.copy.height
  pub rows : Rows p.copy p.y p.sy p.strip_height
  pub strip : StripBounds p.copy p.x p.strip

-- what the first step asks
pub record SoundStart (p : Place) : Type 0 where
  pub copy : SoundCopy p.copy
  pub is : p ≡ start_at p.copy

-- what a step asks, by its stage
abbrev pub SoundAt : Stage → Place → Type 0
SoundAt (stage.Strip due.Image) p = SoundStart p
SoundAt (stage.Strip due.Rect) p = SoundPlace p
SoundAt stage.Tile7 p = SoundPlace p
SoundAt stage.Tile0 p = SoundPlace p
SoundAt stage.Size p = SoundPlace p
SoundAt stage.Load p = SoundPlace p
SoundAt stage.Done p = SoundPlace p

-- ---- the entries, R 454–459 and 494–549 as `copy_plan` and `strip_entries` have them

abbrev pub image_entry : Copy → Entry
image_entry c = entry.Image c.fmt c.siz (field c) c.address

abbrev pub tile_entry : Place → (index cms masks : ℕ) → Entry
tile_entry p index cms masks = entry.Tile index p.copy.fmt p.copy.siz (p.strip.line % 2 ^ 16) 0 p.copy.palette cms 0 masks 0

abbrev pub tile0_entry : Place → Entry
tile0_entry p = tile_entry p 0 (cond p.copy.flip 1 0) (cond p.copy.flip 15 0)

abbrev pub size_entry : Place → Entry
size_entry p = entry.Size 0 0 0 (bound (p.strip.load_width - 1)) (bound (p.strip_height - 1))

-- the bounds of the load into tile 7, and what it asks for
abbrev pub area_of : Place → Bounds
area_of p =
    record {
      uls = bound p.strip.aligned_left;
      ult = bound p.sy;
      lrs = bound (p.strip.aligned_left + p.strip.load_width - 1);
      lrt = bound (p.sy + p.strip_height - 1);
    }

abbrev pub request_in : Copy → Bounds → Option LoadRequest
request_in c a = request_of c.siz (field c) c.address a.uls a.ult a.lrs a.lrt

-- R 531 `if flip { -load_width } else { offset } * 32`
abbrev pub first_texel : Bool → (load_width offset : ℕ) → ℤ
first_texel flip load_width offset = i16 (rows_high (cond flip (neg_ℤ (pos load_width)) (pos offset))).0

abbrev pub rect_entry : Place → Entry
rect_entry p =
    entry.Rect 0 (quarters p.copy.left + of_texels p.x) (quarters p.copy.top + of_texels p.y) (quarters p.copy.left + of_texels (p.x + p.strip.strip_width - 1))
    (quarters p.copy.top + of_texels (p.y + p.strip_height - 1))
    (first_texel p.copy.flip p.strip.load_width p.strip.offset) (pos 0) (pos 0x1000) (pos 0x400) p.sy

-- what is given before a strip is found
abbrev pub due_entry : Due → Place → Entry
due_entry due.Image p = image_entry p.copy
due_entry due.Rect p = rect_entry p

-- ---- the answers, by stage

-- D verdict 7 "a copy strip's line × height exceeds capacity"
abbrev pub too_big : Place → Bool
too_big p = ltb p.copy.capacity (p.strip.line * p.strip_height)

-- an entry with where the walk stands after it, or why there is none
abbrev pub CopyStep : Type 0
CopyStep = Result (Entry × Stage × Place) CopyEnd

unfoldable pub tile7_next : Bool → Place → CopyStep
tile7_next true p = Err end.TooBig
tile7_next false p = Ok (tile_entry p 7 0 0, stage.Tile0, p)

-- after the load, or its refusal
abbrev pub load_step : Result Entry Entry → Place → CopyStep
load_step (Ok e) p = Ok (e, stage.Strip due.Rect, p)
load_step (Err s) p = Err (end.Overflow s)

-- D verdict 9 "a load refused by 9 has already set tile 7's size"
unfoldable pub load_next : Option LoadRequest → Bounds → Place → CopyStep
load_next q a p = load_step (answer_of q a) p

-- the strip after this one: in the row, in the next row, or none
unfoldable pub strip_next : (in_row in_frame : Bool) → Due → Place → CopyStep
strip_next true u d p = Ok (due_entry d p, stage.Tile7, place_at p.copy (p.x + p.strip.strip_width) p.y p.sy p.strip_height)
strip_next false true d p = Ok (due_entry d p, stage.Tile7, row_at p.copy (p.y + p.strip_height))
strip_next false false d p = Ok (due_entry d p, stage.Done, p)

unfoldable pub copy_next_of : Stage → Place → CopyStep
copy_next_of (stage.Strip d) p = strip_next (ltb (p.x + p.strip.strip_width) p.copy.width) (ltb (p.y + p.strip_height) p.copy.height) d p
copy_next_of stage.Tile7 p = tile7_next (too_big p) p
copy_next_of stage.Tile0 p = Ok (tile0_entry p, stage.Size, p)
copy_next_of stage.Size p = Ok (size_entry p, stage.Load, p)
copy_next_of stage.Load p = load_next (request_in p.copy (area_of p)) (area_of p) p
copy_next_of stage.Done p = Err end.Finished

-- ---- the same as one step of a walk

pub record CopyWalk : Type 0 where
  pub stage : Stage
  pub place : Place

abbrev pub as_next : CopyStep → Next CopyWalk
as_next (Ok n) = give n.0 (record { stage = n.1; place = n.2 })
as_next (Err end.TooBig) = over [] verdict.TooBig
as_next (Err (end.Overflow e)) = over (e ∷ []) verdict.Address
as_next (Err end.Finished) = over [] verdict.Finished
