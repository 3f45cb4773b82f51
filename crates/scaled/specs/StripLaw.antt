-- The ranges of a scaled plan's numbers, after verdict 6.
-- Assumes nothing.
use Rattle.std.specs.Prelude.{false, ◌≡◌, ℕ, ◌+◌, ◌-◌, ◌*◌, ◌/◌, ◌%◌, ◌^◌, ◌≤◌, eqb, leb}
use Rattle.std.proofs.Common.{arith, div-le_self, div-mul-le_self, le-div_iff_mul-le, mul-le-mul_left, mul-le-mul_right}
use Rattle.signed.specs.Diff.{zdiff, zarith}
use Rattle.object.specs.declared.types.ObjBg.{ObjBg}
use Rattle.measures.specs.Measure.{quarters, thirty_seconds, of_rows, in_image, sampled_by}
use Rattle.plan.specs.declared.types.Clip.{Clip}
use Rattle.plan.specs.declared.types.Start.{Start}
use Rattle.plan.specs.declared.types.Scaled.{Scaled}
use Rattle.plan.specs.Scaled.{scaled_of, scaled_capacity, slices_bad}
use Rattle.plan.specs.Sound.{SoundScaled}
use Rattle.signed.specs.Bound.{or_false, some}
use Rattle.scaled.specs.Number.{shift_range, chosen_le}
use Rattle.scaled.specs.Range.{Usable, Filled, StartIn, extent_le}
use Rattle.scaled.specs.Strip.{shift_of, split_of}

pub slices_good : (z : Scaled) → slices_bad z ≡ false → (1 ≤ z.source_rows) × ((1 ≤ z.image_rows) × (1 ≤ z.stride))
slices_good z e =
    let o = or_false (eqb z.source_rows 0) _ e in
    let p = or_false (eqb z.image_rows 0) (eqb z.stride 0) o.1 in
    (some z.source_rows o.0, (some z.image_rows p.0, some z.stride p.1))

pub capacity_le : (fmt siz : ℕ) → scaled_capacity fmt siz ≤ 512
capacity_le fmt siz = chosen_le (eqb siz 3) (omega arith) (chosen_le (eqb fmt 2) (omega arith) (omega arith))

-- a strip of a row or more has a line that fits
pub line_le : (capacity line bilerp : ℕ) → capacity ≤ 512 → 1 ≤ capacity / line - bilerp → line ≤ 512
line_le capacity line bilerp h r =
    let k : 1 ≤ capacity / line = omega arith in
    omega (arith, div-mul-le_self capacity line, mul-le-mul_right line k)

pub rows_le : (capacity line bilerp : ℕ) → capacity ≤ 512 → capacity / line - bilerp ≤ 512
rows_le capacity line bilerp h = omega (arith, div-le_self capacity line)

-- and at least 16 1,024ths of a frame line, as no scale is above 65,535
pub frame_least : (rows scale : ℕ) → 1 ≤ rows → 1 ≤ scale → scale ≤ 65535 → 16 ≤ rows * 2 ^ 20 / scale
frame_least rows scale r l h = (le-div_iff_mul-le l).1 (omega arith)

pub frame_most : (rows scale : ℕ) → rows ≤ 512 → rows * 2 ^ 20 / scale ≤ 2 ^ 29
frame_most rows scale r = omega (arith, div-le_self (rows * 2 ^ 20) scale)

-- whole words of a row
pub bytes_le : (x siz : ℕ) → x ≤ 524280 → siz ≤ 3 → x / shift_of siz * 8 ≤ 65535
unfolding shift_of
bytes_le x siz h k = omega (arith, div-mul-le_self x (512 / 2 ^ siz), mul-le-mul_left (x / (512 / 2 ^ siz)) (shift_range siz k).0)

pub split_le : (source_w end : ℕ) → split_of source_w end ≤ 1
unfolding split_of
split_le source_w end = chosen_le (leb source_w end) (omega arith) (omega arith)

module _ (bg : ObjBg) (mode address : ℕ) (c : Clip) (i : Start) (u : Usable bg) (f : Filled c) (n : StartIn bg i) where
  pub scaled_sound : slices_bad (scaled_of bg mode address c i) ≡ false → SoundScaled (scaled_of bg mode address c i)
  unfolding scaled_of shift_of split_of
  scaled_sound e =
      let g = slices_good (scaled_of bg mode address c i) e in
      let w : quarters bg.image_w ≤ 65535 = extent_le u.range.image_w in
      let h : quarters bg.image_h ≤ 65535 = extent_le u.range.image_h in
      let k = capacity_le bg.image_fmt bg.image_siz in
      let r = rows_le (scaled_capacity bg.image_fmt bg.image_siz) (scaled_of bg mode address c i).line (scaled_of bg mode address c i).bilerp k in
      record {
        fmt = omega (arith, u.fmt);
        siz = u.siz;
        palette = omega arith;
        line = omega arith;
        line' = line_le (scaled_capacity bg.image_fmt bg.image_siz) _ (scaled_of bg mode address c i).bilerp k g.1.0;
        image_rows = g.1.0;
        image_rows' = r;
        frame_rows = frame_least _ _ g.1.0 u.scale_h u.range.scale_h;
        frame_rows' = frame_most _ bg.scale_h.0 r;
        stride = omega (arith, g.1.1);
        stride' = bytes_le (in_image (quarters bg.image_w)) bg.image_siz (omega arith) u.siz;
        x_offset = bytes_le (thirty_seconds i.image_x) bg.image_siz (omega (arith, n.image_x)) u.siz;
        source_rows = g.0;
        source_rows' = omega arith;
        scale_h = u.scale_h;
        scale_h' = u.range.scale_h;
        scale_w' = u.range.scale_w;
        bilerp = omega arith;
        split = split_le (in_image (quarters bg.image_w)) (thirty_seconds i.image_x + (sampled_by (quarters c.width) bg.scale_w.0 + of_rows (mode / 8 % 2)));
        x = f.x;
        x_end = record { low = simp zdiff (omega zarith); high = simp zdiff (omega zarith) };
      }
