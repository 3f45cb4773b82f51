-- The set-up of a copy plan: one axis of its frame, and what the set-up promises.
-- Assumes nothing.
use Rattle.std.specs.Prelude.{◌≡◌, refl, Bool, true, false, cond, ◌||◌, ℕ, ◌+◌, ◌-◌, ◌/◌, ◌%◌, ◌^◌, ◌≤◌, max, eqb, ℤ, pos, ◌+ℤ◌, ◌-ℤ◌, ◌≤ℤ◌}
use Rattle.std.proofs.Common.{true≢false, arith}
use Rattle.std.specs.Int.Signed.{le_z}
use Rattle.signed.specs.Bound.{some}
use Rattle.signed.specs.Diff.{up, zdiff, zparts, zarith}
use Rattle.signed.specs.Cast.{min_z}
use Rattle.object.specs.declared.types.ObjBg.{ObjBg}
use Rattle.measures.specs.declared.types.Quarters.{Quarters}
use Rattle.object.specs.declared.types.Scissor.{Scissor}
use Rattle.measures.specs.Measure.{quarters, thirty_seconds, texels, edge, whole_texels, in_quarters}
use Rattle.measures.specs.Range.{Below, Within}
use Rattle.checks.specs.Known.{PassedCopy}
use Rattle.plan.specs.declared.types.Copy.{Copy}
use Rattle.plan.specs.Copy.{copy_capacity, copy_of, copy_empty}
use Rattle.plan.specs.Sound.{SoundCopy}
use Rattle.strips.specs.declared.frame.Axis.{Axis}

-- r is x, and at most m
pub record AtMost (x m r : ℕ) : Type 0 where
  pub is : r ≡ x
  pub most : r ≤ m

-- R 434–439, 461–463: an axis of the frame between two edges of the scissor, as `copy_of` has it for x and for y
unfoldable pub axis_of : (frame : ℤ) (size low high : ℕ) → Axis
axis_of frame size low high =
    let edge = max (up frame) low in
    let far = min_z (frame +ℤ pos size) (pos high) in
    record { edge = in_quarters (pos edge); cells = texels (up (far -ℤ pos edge)); skip = texels (up (pos edge -ℤ frame)) }

pub record AxisIs (frame : ℤ) (size low high : ℕ) (r : Axis) : Type 0 where
  pub is : r ≡ axis_of frame size low high
  pub skip : r.skip ≤ 16383

-- an axis from its parts
pub axis_is : (frame : ℤ) (size low high : ℕ) {e : Quarters} {cells skip : ℕ}
    → e ≡ in_quarters (pos (max (up frame) low))
    → cells ≡ texels (up (min_z (frame +ℤ pos size) (pos high) -ℤ e.0))
    → AtMost (texels (up (e.0 -ℤ frame))) 16383 skip
    → AxisIs frame size low high (record { edge = e; cells = cells; skip = skip })
unfolding axis_of
axis_is frame size low high p q r = record { is = rw (q, r.is, p); skip = r.most }

-- the frame's numbers; and their ranges, unless the frame is empty
pub record CopyIs (bg : ObjBg) (s : Scissor) (address : ℕ) (r : Copy) : Type 0 where
  pub is : r ≡ copy_of bg s address
  pub sound : copy_empty r ≡ false → SoundCopy r

-- ---- the ranges of a frame that is not empty

far_in : (t : Bool) (a : ℤ) (h : ℕ) → le_z a (pos h) ≡ t → cond t a (pos h) ≤ℤ pos h
far_in true a h e = omega (zarith, e)
far_in false a h e = omega zarith

cells_in : (far : ℤ) (h e : ℕ) → far ≤ℤ pos h → up (far -ℤ pos e) ≤ h - e
cells_in far h e l = simp zdiff (simp zparts (omega zarith))

skip_in : (e : ℕ) (frame : ℤ) → Within 15 frame → up (pos e -ℤ frame) ≤ e + 32768
skip_in e frame w = simp zdiff (simp zparts (omega zarith))

-- what holds of an axis with a cell in it
record AxisIn (r : Axis) : Type 0 where
  pub edge : Below 12 r.edge.0
  pub cells : r.cells ≤ 1023
  pub skip : r.skip ≤ 16383

axis_in : (frame : ℤ) (size low high : ℕ) → Within 15 frame → low ≤ 4092 → high ≤ 4092 → 1 ≤ (axis_of frame size low high).cells → AxisIn (axis_of frame size low high)
unfolding axis_of
axis_in frame size low high w l h some =
    let far = min_z (frame +ℤ pos size) (pos high) in
    let edge = max (up frame) low in
    let f : far ≤ℤ pos high = far_in (le_z (frame +ℤ pos size) (pos high)) (frame +ℤ pos size) high refl in
    let c = cells_in far high edge f in
    let s = skip_in edge frame w in
    record { edge = record { low = omega zarith; high = omega zarith }; cells = omega arith; skip = omega arith }

or_false : (a b : Bool) → a || b ≡ false → (a ≡ false) × (b ≡ false)
or_false true b e = absurd (true≢false e)
or_false false b e = (refl, e)

capacity_in : (t : Bool) → cond t 256 512 ≤ 512
capacity_in true = omega arith
capacity_in false = omega arith

pub copy_sound : (bg : ObjBg) (s : Scissor) (address : ℕ) → PassedCopy bg s → bg.tmem_h / 4 ≤ 16383 → copy_empty (copy_of bg s address) ≡ false → SoundCopy (copy_of bg s address)
unfolding copy_of axis_of
copy_sound bg s address p rows e =
    let r = p.passed.range in
    let d = p.passed.edges in
    let cells = or_false _ _ e in
    let x = axis_in bg.frame_x.0 (quarters bg.frame_w) (edge s.ulx) (edge s.lrx) r.frame_x (omega zarith) (omega zarith) (some _ cells.0) in
    let y = axis_in bg.frame_y.0 (quarters bg.frame_h) (edge s.uly) (edge s.lry) r.frame_y (omega zarith) (omega zarith) (some _ cells.1) in
    record {
      fmt = omega arith;
      siz = p.passed.siz;
      palette = omega arith;
      rows = omega zarith;
      rows' = rows;
      image_width = omega zarith;
      image_width' = omega zarith;
      image_height = omega zarith;
      image_height' = omega zarith;
      frame_cells = omega zarith;
      left = x.edge;
      top = y.edge;
      width = some _ cells.0;
      width' = x.cells;
      height = some _ cells.1;
      height' = y.cells;
      source_x = omega zarith;
      source_y = omega zarith;
      x_skip = omega zarith;
      capacity = capacity_in (eqb bg.image_fmt 2 || eqb bg.image_siz 3);
      texels_per_word = refl;
    }

ranged : (bg : ObjBg) (s : Scissor) (address : ℕ) → PassedCopy bg s → bg.tmem_h / 4 ≤ 16383 → {r : Copy} → r ≡ copy_of bg s address → CopyIs bg s address r
ranged bg s address p rows {r} e = record { is = e; sound = rw e (copy_sound bg s address p rows) }

-- the set-up from its parts
pub copy_is : (bg : ObjBg) (s : Scissor) (address : ℕ) {x y : Axis} {palette rows width height cells source row capacity texels' : ℕ}
    → PassedCopy bg s
    → AxisIs bg.frame_x.0 (quarters bg.frame_w) (edge s.ulx) (edge s.lrx) x
    → AxisIs bg.frame_y.0 (quarters bg.frame_h) (edge s.uly) (edge s.lry) y
    → width ≡ texels (quarters bg.image_w)
    → height ≡ texels (quarters bg.image_h)
    → cells ≡ texels (quarters bg.frame_w)
    → source ≡ whole_texels (thirty_seconds bg.image_x)
    → row ≡ whole_texels (thirty_seconds bg.image_y)
    → rows ≡ texels bg.tmem_h
    → rows ≤ 16383
    → palette ≡ bg.image_pal % 2 ^ 8
    → capacity ≡ copy_capacity bg.image_fmt bg.image_siz
    → texels' ≡ 16 / 2 ^ bg.image_siz
    → CopyIs bg s address
    (record {
      fmt = bg.image_fmt;
      siz = bg.image_siz;
      palette = palette;
      flip = eqb (bg.image_flip % 2) 1;
      address = address;
      rows = rows;
      image_width = width;
      image_height = height;
      frame_cells = cells;
      left = x.edge;
      top = y.edge;
      width = x.cells;
      height = y.cells;
      source_x = source;
      source_y = row + y.skip;
      x_skip = x.skip;
      capacity = capacity;
      texels_per_word = texels';
    })
unfolding copy_of axis_of
copy_is bg s address p ax ay w h f sx sy r m e q t =
    ranged bg s address p (omega arith) (rw (ax.is, ay.is, w, h, f, sx, sy, r, e, q, t))
