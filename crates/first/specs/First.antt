-- The parts of `first_of`. They are shut, so that a caller's goals stay short. y is the first image row in thirty-seconds, o the image's origin, h the vertical scale, f a strip's frame lines in 1,024ths.
-- Assumes nothing.
use Rattle.std.specs.Prelude.{◌≡◌, ℕ, ◌+◌, ◌^◌, ◌≤◌, ℤ, pos, ◌+ℤ◌, ◌-ℤ◌, ◌*ℤ◌}
use Rattle.signed.specs.Floor.{floor_div, modulo}
use Rattle.signed.specs.Cast.{clear_low}
use Rattle.measures.specs.Measure.{whole_rows, of_position, of_lines, whole}
use Rattle.measures.specs.Range.{Around}
use Rattle.plan.specs.declared.types.Scaled.{Scaled}
use Rattle.plan.specs.declared.types.Start.{Start}
use Rattle.first.specs.declared.first.Cut.{Cut}

-- the distance from the origin, in 1,024ths of an image row
unfoldable pub image_offset_of : ℤ → ℤ → ℤ
image_offset_of y o = of_position (y -ℤ o)

-- in 1,024ths of a frame line, at a whole line
unfoldable pub frame_offset_of : ℤ → ℕ → ℤ
frame_offset_of d h = of_lines (floor_div d h)

-- a strip's start, and its lines before the frame's first
unfoldable pub slice_start_of : ℕ → ℤ → ℤ
slice_start_of f k = pos f *ℤ k

unfoldable pub hidden_of : ℤ → ℤ → ℤ
hidden_of e s = e -ℤ clear_low s 1024

unfoldable pub count_of : ℤ → ℕ → ℤ → ℤ
count_of s f n = pos (modulo s 1024) +ℤ pos f -ℤ n

-- the row, from the image row at which a strip starts
unfoldable pub image_row_of : ℤ → ℤ → ℤ → ℕ → ℕ
image_row_of s o n all = modulo (s +ℤ whole_rows o +ℤ whole n) all

-- all of it, from the inputs: the distance, the first strip's number, and its start
abbrev pub offset_of : Scaled → Start → ℤ
offset_of z i = frame_offset_of (image_offset_of i.image_y.0 i.origin.0) z.scale_h.0

abbrev pub slice_of : Scaled → Start → ℤ
slice_of z i = floor_div (offset_of z i) z.frame_rows

abbrev pub start_of_slice : Scaled → Start → ℤ
start_of_slice z i = slice_start_of z.frame_rows (slice_of z i)

pub record CutIs (z : Scaled) (i : Start) (c : Cut) : Type 0 where
  pub slice : c.slice ≡ slice_of z i
  pub start : c.start ≡ start_of_slice z i
  pub hidden : pos c.hidden ≡ hidden_of (offset_of z i) (start_of_slice z i)
  pub around : Around 49 c.slice
  pub most : c.hidden ≤ 2 ^ 30 + 1024
