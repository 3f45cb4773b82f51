-- The object's fields in its bytes: D is docs/SPECIFICATION.md, mainly section 3; M is `mem.rs` 63–135, `ObjBg` and `decode_obj_bg`; and the S2DEX2 reference's uObjBg and uObjScaleBg.
-- Assumes nothing.
use Rattle.std.specs.Prelude.{Bool, true, false, cond, Option, Some, None, List, ◌≡◌, ℕ, zero, suc, ◌+◌, ◌*◌, ◌^◌, ◌≤◌, ◌<◌, max, ltb, length, get_or, ℤ, pos}
use Rattle.std.specs.Int.{w16, w32}
use Rattle.std.proofs.Common.{to_z}
use Rattle.signed.specs.Diff.{up}
use Rattle.object.specs.declared.types.ObjBg.{ObjBg}

-- D 3.1, D 3.2 and D 3.3, in the tables' order
pub data Field : Type 0 where
  image_x : Field
  image_w : Field
  frame_x : Field
  frame_w : Field
  image_y : Field
  image_h : Field
  frame_y : Field
  frame_h : Field
  image_ptr : Field
  image_load : Field
  image_fmt : Field
  image_siz : Field
  image_pal : Field
  image_flip : Field
  tmem_w : Field
  tmem_h : Field
  tmem_load_sh : Field
  tmem_load_th : Field
  tmem_size_w : Field
  tmem_size : Field
  scale_w : Field
  scale_h : Field
  image_y_orig : Field

-- how a field's bytes are read
pub data Sign : Type 0 where
  unsigned : Sign
  signed16 : Sign
  signed32 : Sign

-- a field's first byte, how many it has, and its sign
pub record Place : Type 0 where
  pub offset : ℕ
  pub width : ℕ
  pub sign : Sign

abbrev pub place : ℕ → ℕ → Sign → Place
place offset width sign = record { offset = offset; width = width; sign = sign }

-- the field table, for pointers of p bytes: what stands after the pointer moves with p
unfoldable pub layout : ℕ → Field → Place
layout p image_x = place 0 2 unsigned
layout p image_w = place 2 2 unsigned
layout p frame_x = place 4 2 signed16
layout p frame_w = place 6 2 unsigned
layout p image_y = place 8 2 unsigned
layout p image_h = place 10 2 unsigned
layout p frame_y = place 12 2 signed16
layout p frame_h = place 14 2 unsigned
layout p image_ptr = place 16 p unsigned
layout p image_load = place (16 + p) 2 unsigned
layout p image_fmt = place (18 + p) 1 unsigned
layout p image_siz = place (19 + p) 1 unsigned
layout p image_pal = place (20 + p) 2 unsigned
layout p image_flip = place (22 + p) 2 unsigned
layout p tmem_w = place (24 + p) 2 unsigned
layout p tmem_h = place (26 + p) 2 unsigned
layout p tmem_load_sh = place (28 + p) 2 unsigned
layout p tmem_load_th = place (30 + p) 2 unsigned
layout p tmem_size_w = place (32 + p) 2 unsigned
layout p tmem_size = place (34 + p) 2 unsigned
layout p scale_w = place (24 + p) 2 unsigned
layout p scale_h = place (26 + p) 2 unsigned
layout p image_y_orig = place (28 + p) 4 signed32

-- D verdict 2 "under 40 bytes for copy, 36 for scaled", for pointers of 4 bytes: the end of the last field
abbrev pub size_of : ℕ → (copy : Bool) → ℕ
size_of p copy = cond copy (36 + p) (32 + p)

-- D "All fields are big-endian": the number in the n bytes from an offset
unfoldable pub read : List ℕ → ℕ → ℕ → ℕ
read bs at zero = 0
read bs at (suc n) = read bs at n * 256 + get_or bs (at + n) 0

-- the n bytes from an offset are there, at most a word's
pub record Held (bs : List ℕ) (at n : ℕ) : Type 0 where
  pub few : n ≤ 8
  pub there : at + n ≤ length bs

-- what a read gives: the number, and its bound
pub record ReadIs (bs : List ℕ) (at n r : ℕ) : Type 0 where
  pub is : r ≡ read bs at n
  pub below : r < 256 ^ n

-- each element of a slice of bytes is a byte
abbrev pub Bytes : List ℕ → Type 0
Bytes bs = (k : ℕ) → get_or bs k 0 < 256

abbrev pub with_sign : Sign → ℕ → ℤ
with_sign unsigned n = pos n
with_sign signed16 n = to_z w16 n
with_sign signed32 n = to_z w32 n

-- a field's value in the bytes, and the same of a field that is never negative
unfoldable pub value_of : ℕ → List ℕ → Field → ℤ
unfolding layout read
value_of p bs f = let l = layout p f in with_sign l.sign (read bs l.offset l.width)

abbrev pub number_of : ℕ → List ℕ → Field → ℕ
number_of p bs f = up (value_of p bs f)

-- M 89–135 `decode_obj_bg`; M "fields outside the requested variant are zero"; D "A stored scale of 0 is 1"
unfoldable pub decode : ℕ → (copy : Bool) → List ℕ → ObjBg
unfolding value_of
decode p copy bs =
    record {
      image_x = record { 0 = value_of p bs image_x };
      image_w = record { 0 = value_of p bs image_w };
      frame_x = record { 0 = value_of p bs frame_x };
      frame_w = record { 0 = value_of p bs frame_w };
      image_y = record { 0 = value_of p bs image_y };
      image_h = record { 0 = value_of p bs image_h };
      frame_y = record { 0 = value_of p bs frame_y };
      frame_h = record { 0 = value_of p bs frame_h };
      image_ptr = number_of p bs image_ptr;
      image_load = number_of p bs image_load;
      image_fmt = number_of p bs image_fmt;
      image_siz = number_of p bs image_siz;
      image_pal = number_of p bs image_pal;
      image_flip = number_of p bs image_flip;
      tmem_w = cond copy (number_of p bs tmem_w) 0;
      tmem_h = cond copy (number_of p bs tmem_h) 0;
      tmem_load_sh = cond copy (number_of p bs tmem_load_sh) 0;
      tmem_load_th = cond copy (number_of p bs tmem_load_th) 0;
      tmem_size_w = cond copy (number_of p bs tmem_size_w) 0;
      tmem_size = cond copy (number_of p bs tmem_size) 0;
      scale_w = record { 0 = cond copy 0 (max 1 (number_of p bs scale_w)) };
      scale_h = record { 0 = cond copy 0 (max 1 (number_of p bs scale_h)) };
      image_y_orig = record { 0 = cond copy (pos 0) (value_of p bs image_y_orig) };
    }

-- the object, unless it is short
abbrev pub decoded_by : Bool → ObjBg → Option ObjBg
decoded_by true bg = None
decoded_by false bg = Some bg

unfoldable pub decoded_of : ℕ → (copy : Bool) → List ℕ → Option ObjBg
decoded_of p copy bs = decoded_by (ltb (length bs) (size_of p copy)) (decode p copy bs)
