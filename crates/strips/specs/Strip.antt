-- One strip of a copy plan: the parts of its columns, and its bounds. D is docs/SPECIFICATION.md, section 7.
-- Assumes nothing.
use Rattle.std.specs.Prelude.{◌≡◌, refl, Bool, true, false, cond, ℕ, zero, suc, ◌+◌, ◌-◌, ◌*◌, ◌/◌, ◌%◌, ◌^◌, ◌≤◌, ◌<◌, min, eqb}
use Rattle.std.proofs.Common.{arith, div-add-mod', mod-lt}
use Rattle.signed.specs.Floor.{modulo, modulo_lt}
use Rattle.plan.specs.declared.types.Copy.{Copy}
use Rattle.plan.specs.declared.types.Strip.{Strip}
use Rattle.plan.specs.Copy.{column, strip_of, strip_row_of, strip_height_of}
use Rattle.plan.specs.Sound.{SoundCopy}

-- r is x, and below m
pub record Less (x m r : ℕ) : Type 0 where
  pub is : r ≡ x
  pub below : r < m

-- r is x, and n more lie below m
pub record Room (x n m r : ℕ) : Type 0 where
  pub is : r ≡ x
  pub room : r + n ≤ m

-- R 482 `(width - x).min(..)`, D "strip width the least of cells left and columns left before the wrap"
abbrev pub width_of : Copy → (x sx : ℕ) → ℕ
width_of c x sx = min (c.width - x) (cond c.flip (sx + 1) (c.image_width - sx))

-- R 483
abbrev pub left_of : Copy → (sx width : ℕ) → ℕ
left_of c sx width = cond c.flip (sx + 1 - width) sx

-- R 484, D "The left column is rounded down to 16, 8, 4 or 2 texels"
abbrev pub aligned_of : Copy → ℕ → ℕ
aligned_of c n = n / c.texels_per_word * c.texels_per_word

-- r is n rounded down, and less than a word's texels before it
pub record Aligned (c : Copy) (n r : ℕ) : Type 0 where
  pub is : r ≡ aligned_of c n
  pub most : r ≤ n
  pub near : n ≤ r + 15

-- R 487–489, D "Line is ceil(load width × 2^siz / 16), by 32 for siz 3"
abbrev pub line_of : (siz load : ℕ) → ℕ
line_of siz load = (load * 2 ^ siz + cond (eqb siz 3) 32 16 - 1) / cond (eqb siz 3) 32 16

-- what holds of the strip at cell x
pub record Bounds (c : Copy) (x : ℕ) (s : Strip) : Type 0 where
  pub width : 1 ≤ s.strip_width
  pub width' : x + s.strip_width ≤ c.width
  pub offset : s.offset ≤ 15
  pub load : 1 ≤ s.load_width
  pub load' : s.load_width ≤ 1038
  pub right : s.aligned_left + s.load_width ≤ c.image_width
  pub line : s.line ≤ 1039

-- s is the strip at cell x, with its bounds
pub record StripIs (c : Copy) (x : ℕ) (s : Strip) : Type 0 where
  pub is : s ≡ strip_of c x
  pub bounds : Bounds c x s

-- what holds of the height h of the strips at line y and image row sy
pub record Rows (c : Copy) (y sy h : ℕ) : Type 0 where
  pub height : 1 ≤ h
  pub height' : y + h ≤ c.height
  pub below : sy + h ≤ c.image_height

pub record HeightIs (c : Copy) (y sy h : ℕ) : Type 0 where
  pub is : h ≡ strip_height_of c y
  pub rows : Rows c y sy h

-- ---- laws

-- 16, 8, 4 or 2
texels_in : (siz : ℕ) → siz ≤ 3 → (2 ≤ 16 / 2 ^ siz) × (16 / 2 ^ siz ≤ 16)
texels_in zero h = omega arith
texels_in (suc zero) h = omega arith
texels_in (suc (suc zero)) h = omega arith
texels_in (suc (suc (suc zero))) h = omega arith
texels_in (suc (suc (suc (suc n)))) h = absurd (omega arith)

pub texels_bounds : (c : Copy) → SoundCopy c → (2 ≤ c.texels_per_word) × (c.texels_per_word ≤ 16)
texels_bounds c s = rw s.texels_per_word (texels_in c.siz s.siz)

pub aligned_is : (c : Copy) (n : ℕ) → SoundCopy c → Aligned c n (aligned_of c n)
aligned_is c n s =
    let t = texels_bounds c s in
    let d = div-add-mod' n c.texels_per_word in
    let m : n % c.texels_per_word < c.texels_per_word = mod-lt n (omega arith) in
    record { is = refl; most = omega arith; near = omega arith }

pub column_is : (c : Copy) (x : ℕ) → SoundCopy c → {r : ℕ} → r ≡ modulo (column c x) c.image_width → Less (modulo (column c x) c.image_width) c.image_width r
column_is c x s e = record { is = e; below = rw e (modulo_lt (column c x) s.image_width) }

-- the cells of a strip, whichever way it runs
width_in : (flip : Bool) (columns sx width x : ℕ) → sx < columns → x < width →
    (1 ≤ min (width - x) (cond flip (sx + 1) (columns - sx)))
    × (x + min (width - x) (cond flip (sx + 1) (columns - sx)) ≤ width)
    × (cond flip (sx + 1 - min (width - x) (cond flip (sx + 1) (columns - sx))) sx + min (width - x) (cond flip (sx + 1) (columns - sx)) ≤ columns)
width_in true columns sx width x h k = omega arith
width_in false columns sx width x h k = omega arith

line_in : (siz load : ℕ) → siz ≤ 3 → line_of siz load ≤ load + 1
line_in zero load h = omega arith
line_in (suc zero) load h = omega arith
line_in (suc (suc zero)) load h = omega arith
line_in (suc (suc (suc zero))) load h = omega arith
line_in (suc (suc (suc (suc n)))) load h = absurd (omega arith)

pub strip_bounds : (c : Copy) (x : ℕ) → SoundCopy c → x < c.width → Bounds c x (strip_of c x)
unfolding strip_of
strip_bounds c x s h =
    let sx = modulo (column c x) c.image_width in
    let w = width_in c.flip c.image_width sx c.width x (modulo_lt (column c x) s.image_width) h in
    let a = aligned_is c (left_of c sx (width_of c x sx)) s in
    let l = line_in c.siz (left_of c sx (width_of c x sx) - aligned_of c (left_of c sx (width_of c x sx)) + width_of c x sx) s.siz in
    record {
      width = omega arith;
      width' = omega arith;
      offset = omega arith;
      load = omega arith;
      load' = omega arith;
      right = omega arith;
      line = omega arith;
    }

pub strip_is : (c : Copy) (x : ℕ) → SoundCopy c → x < c.width → {s : Strip} → s ≡ strip_of c x → StripIs c x s
strip_is c x h l {s} e = record { is = e; bounds = rw e (strip_bounds c x h l) }

pub row_in : (c : Copy) (y : ℕ) → SoundCopy c → strip_row_of c y < c.image_height
row_in c y s = mod-lt (c.source_y + y) s.image_height

pub height_in : (c : Copy) (y : ℕ) → SoundCopy c → y < c.height → Rows c y (strip_row_of c y) (strip_height_of c y)
height_in c y s h = let r = row_in c y s in record { height = omega arith; height' = omega arith; below = omega arith }
