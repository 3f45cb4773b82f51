-- What the writer of copy objects leaves in a buffer. D is docs/SPECIFICATION.md, section 15.
-- Assumes nothing.
use Rattle.std.specs.Prelude.{◌≡◌, Bool, cond, List, [], ◌∷◌, ◌++◌, ℕ, ◌+◌, ◌*◌, ◌/◌, ◌%◌, ltb, eqb, pos, length, drop}
use Rattle.std.specs.Int.{w16, w32, to_be_bytes}
use Rattle.std.proofs.Common.{of_z}
use Rattle.measures.specs.Measure.{quarters, thirty_seconds, of_texels, in_quarters, in_thirty_seconds, in_scale}
use Rattle.object.specs.declared.types.ObjBg.{ObjBg}
use Rattle.object.specs.declared.types.Scissor.{Scissor}
use Rattle.checks.specs.Check.{any}
use Rattle.plan.specs.Request.{Request}
use Rattle.plan.specs.Copy.{copy_capacity}
use Rattle.strips.specs.Strip.{line_of}
use Rattle.picture.specs.declared.types.Written.{Written}
use Rattle.picture.specs.declared.types.Written.TheVariants as written

-- ---- the object

-- D "tmem_h is 4 × (capacity divided by that line, rounded down)": the rows of a strip
abbrev pub strip_rows : (width fmt siz : ℕ) → ℕ
strip_rows width fmt siz = copy_capacity fmt siz / line_of siz width

-- D "The frame equals the picture and lies at 0, the load is 0xfff4 .. The product fields follow from these; the pointer is given, all other fields are 0": the object of a picture with a line of so many words and strips of so many rows
abbrev pub object_with : (width height fmt siz pointer line rows : ℕ) → ObjBg
object_with width height fmt siz pointer line rows =
    record {
      image_x = in_thirty_seconds (pos 0);
      image_w = in_quarters (pos (of_texels width));
      frame_x = in_quarters (pos 0);
      frame_w = in_quarters (pos (of_texels width));
      image_y = in_thirty_seconds (pos 0);
      image_h = in_quarters (pos (of_texels height));
      frame_y = in_quarters (pos 0);
      frame_h = in_quarters (pos (of_texels height));
      image_ptr = pointer;
      image_load = 0xfff4;
      image_fmt = fmt;
      image_siz = siz;
      image_pal = 0;
      image_flip = 0;
      tmem_w = 0;
      tmem_h = of_texels rows;
      tmem_load_sh = of_texels rows * line % 65536;
      tmem_load_th = 0;
      tmem_size_w = line;
      tmem_size = of_texels rows * line / 65536;
      scale_w = in_scale 0;
      scale_h = in_scale 0;
      image_y_orig = in_thirty_seconds (pos 0);
    }

-- D "tmem_size_w is the line for the picture's full width"
abbrev pub picture_of : (width height fmt siz pointer rows : ℕ) → ObjBg
picture_of width height fmt siz pointer rows = object_with width height fmt siz pointer (line_of siz width) rows

-- D "All fields are big-endian": the 40 bytes of a copy object, in the order of D 3.1 and D 3.2, with a pointer of 4 bytes
unfoldable pub copy_bytes : ObjBg → List ℕ
copy_bytes bg =
    to_be_bytes w16 (thirty_seconds bg.image_x)
    ++ to_be_bytes w16 (quarters bg.image_w)
    ++ to_be_bytes w16 (of_z w16 bg.frame_x.0)
    ++ to_be_bytes w16 (quarters bg.frame_w)
    ++ to_be_bytes w16 (thirty_seconds bg.image_y)
    ++ to_be_bytes w16 (quarters bg.image_h)
    ++ to_be_bytes w16 (of_z w16 bg.frame_y.0)
    ++ to_be_bytes w16 (quarters bg.frame_h)
    ++ to_be_bytes w32 bg.image_ptr
    ++ to_be_bytes w16 bg.image_load
    ++ (bg.image_fmt ∷ bg.image_siz ∷ [])
    ++ to_be_bytes w16 bg.image_pal
    ++ to_be_bytes w16 bg.image_flip
    ++ to_be_bytes w16 bg.tmem_w
    ++ to_be_bytes w16 bg.tmem_h
    ++ to_be_bytes w16 bg.tmem_load_sh
    ++ to_be_bytes w16 bg.tmem_load_th
    ++ to_be_bytes w16 bg.tmem_size_w
    ++ to_be_bytes w16 bg.tmem_size

-- ---- what is refused

-- D 4.4's conditions on siz and fmt
abbrev pub format_faults : (fmt siz : ℕ) → List Bool
format_faults fmt siz = ltb 3 siz ∷ ltb 4 fmt ∷ []

-- D "width or height in texels is 0 or above 16,383"
abbrev pub size_faults : (width height : ℕ) → List Bool
size_faults width height = eqb width 0 ∷ ltb 16383 width ∷ eqb height 0 ∷ ltb 16383 height ∷ []

-- D "or the line exceeds capacity"
abbrev pub picture_faults : (width height fmt siz : ℕ) → List Bool
picture_faults width height fmt siz = size_faults width height ++ ltb (copy_capacity fmt siz) (line_of siz width) ∷ []

-- ---- what the writer leaves

-- the number of an answer
abbrev pub written_number : Written → ℕ
written_number written.Done = 0
written_number written.Short = 2
written_number written.Object = 4
written_number written.Picture = 11

-- its answer, and the buffer
pub record Wrote : Type 0 where
  pub answer : Written
  pub out : List ℕ

abbrev pub wrote : Written → List ℕ → Wrote
wrote w out = record { answer = w; out = out }

-- D "2, before all others, for a buffer under 40 bytes; nothing is written", then 4, then D "11, after verdict 4's conditions on fmt and siz"; the bytes behind the object stay
unfoldable pub wrote_of : (width height fmt siz pointer : ℕ) → List ℕ → Wrote
wrote_of width height fmt siz pointer out =
    cond (ltb (length out) 40) (wrote written.Short out)
    (cond (any (format_faults fmt siz)) (wrote written.Object out)
    (cond (any (picture_faults width height fmt siz)) (wrote written.Picture out)
    (wrote written.Done (copy_bytes (picture_of width height fmt siz pointer (strip_rows width fmt siz)) ++ drop 40 out))))

-- ---- later objects on the picture

-- D "For every later choice of frame, start and flip 0 or 1 on that picture": all other fields are the picture's
pub record SamePicture (o picture : ObjBg) : Type 0 where
  pub image_w : o.image_w ≡ picture.image_w
  pub image_h : o.image_h ≡ picture.image_h
  pub image_ptr : o.image_ptr ≡ picture.image_ptr
  pub image_load : o.image_load ≡ picture.image_load
  pub image_fmt : o.image_fmt ≡ picture.image_fmt
  pub image_siz : o.image_siz ≡ picture.image_siz
  pub image_pal : o.image_pal ≡ picture.image_pal
  pub tmem_w : o.tmem_w ≡ picture.tmem_w
  pub tmem_h : o.tmem_h ≡ picture.tmem_h
  pub tmem_load_sh : o.tmem_load_sh ≡ picture.tmem_load_sh
  pub tmem_load_th : o.tmem_load_th ≡ picture.tmem_load_th
  pub tmem_size_w : o.tmem_size_w ≡ picture.tmem_size_w
  pub tmem_size : o.tmem_size ≡ picture.tmem_size

-- ---- one row more

-- D "One strip row more, the product fields following"
abbrev pub taller_of : (width height fmt siz pointer : ℕ) → ObjBg
taller_of width height fmt siz pointer = picture_of width height fmt siz pointer (strip_rows width fmt siz + 1)

-- D "a scissor of 0 0 1023 1023"
abbrev pub full : Scissor
full = record { ulx = pos 0; uly = pos 0; lrx = pos 1023; lry = pos 1023 }

-- a copy request of these bytes
abbrev pub copy_request : (bytes : List ℕ) → Scissor → (mode address : ℕ) → Request
copy_request bytes s mode address = record { bytes = bytes; opcode = 10; scissor = s; mode = mode; address = address }
