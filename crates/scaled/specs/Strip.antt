-- The parts of `scaled_of` and `start_of`. They are shut, so that a caller's goals stay short.
-- Assumes nothing.
use Rattle.std.specs.Prelude.{Bool, cond, ◌≡◌, ℕ, ◌+◌, ◌-◌, ◌*◌, ◌/◌, ◌%◌, ◌^◌, min, eqb, leb, ℤ, pos, neg_ℤ, ◌+ℤ◌, ◌-ℤ◌}
use Rattle.object.specs.declared.types.ObjBg.{ObjBg}
use Rattle.measures.specs.Measure.{quarters, thirty_seconds, whole_texels, of_rows, in_image, sampled_by, lines_at, in_thirty_seconds}
use Rattle.plan.specs.declared.types.Clip.{Clip}
use Rattle.plan.specs.declared.types.Start.{Start}
use Rattle.plan.specs.Scaled.{scaled_capacity}
use Rattle.scaled.specs.declared.strip.Rows.{Rows}
use Rattle.scaled.specs.declared.strip.Columns.{Columns}

-- the thirty-seconds of a texel in one 64-bit word
unfoldable pub shift_of : (siz : ℕ) → ℕ
shift_of siz = 512 / 2 ^ siz

unfoldable pub max_slice : (siz slice source_w : ℕ) → ℕ
max_slice siz slice source_w = cond (eqb siz 3) 0x2800 (min slice source_w)

-- the words of a tile's row
unfoldable pub line_of : ObjBg → (bilerp : ℕ) → ℕ
line_of bg bilerp =
    let shift = shift_of bg.image_siz in
    (max_slice bg.image_siz (sampled_by (quarters bg.frame_w) bg.scale_w.0 + of_rows bilerp) (in_image (quarters bg.image_w)) + (shift - 1)) / shift + 1

-- whether a strip's rows run over the image's right side, its first column, and the image's origin
unfoldable pub split_of : (source_w end : ℕ) → ℕ
split_of source_w end = cond (leb source_w end) 1 0

unfoldable pub s_of : Bool → (s width : ℕ) → ℤ
s_of flip s width = cond flip (neg_ℤ (pos (s + width))) (pos s)

unfoldable pub origin_of : ℤ → (down back : ℕ) → ℤ
origin_of o down back = o +ℤ pos down -ℤ pos back

-- a strip's rows
abbrev pub rows_of : ObjBg → (bilerp : ℕ) → ℕ
rows_of bg bilerp = scaled_capacity bg.image_fmt bg.image_siz / line_of bg bilerp - bilerp

pub record RowsAre (bg : ObjBg) (bilerp : ℕ) (r : Rows) : Type 0 where
  pub line : r.line ≡ line_of bg bilerp
  pub image_rows : r.image_rows ≡ rows_of bg bilerp
  pub frame_rows : r.frame_rows ≡ lines_at (rows_of bg bilerp) bg.scale_h.0
  pub source_rows : r.source_rows ≡ whole_texels (in_image (quarters bg.image_h))

pub record ColumnsAre (bg : ObjBg) (bilerp : ℕ) (c : Clip) (i : Start) (r : Columns) : Type 0 where
  pub split : r.split ≡ split_of (in_image (quarters bg.image_w)) (thirty_seconds i.image_x + (sampled_by (quarters c.width) bg.scale_w.0 + of_rows bilerp))
  pub stride : r.stride ≡ in_image (quarters bg.image_w) / shift_of bg.image_siz * 8
  pub x_offset : r.x_offset ≡ thirty_seconds i.image_x / shift_of bg.image_siz * 8
  pub s : r.s ≡ in_thirty_seconds (s_of c.flip (thirty_seconds i.image_x % shift_of bg.image_siz) (sampled_by (quarters c.width) bg.scale_w.0))
