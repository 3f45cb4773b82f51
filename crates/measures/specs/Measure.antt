-- The three measures (SPECIFICATION 1.6) and the conversions between them, and between a measure and whole texels, rows and lines. R is `rsp_s2dex2.rs`.
-- Assumes nothing.
use Rattle.std.specs.Prelude.{ℕ, ◌*◌, ◌/◌, ◌^◌, ℤ, pos, ◌*ℤ◌}
use Rattle.signed.specs.Diff.{up}
use Rattle.signed.specs.Floor.{floor_div, modulo}
use Rattle.measures.specs.declared.types.Quarters.{Quarters}
use Rattle.measures.specs.declared.types.ThirtySeconds.{ThirtySeconds}
use Rattle.measures.specs.declared.types.Scale.{Scale}

-- a width or a height, which is never negative, as its number
abbrev pub quarters : Quarters → ℕ
quarters q = up q.0

-- image_x or image_y, which is never negative, as its number
abbrev pub thirty_seconds : ThirtySeconds → ℕ
thirty_seconds t = up t.0

-- ---- quarters and whole texels

-- R 261–262 ">> 2", 417–419, 438–439, 462–463 "/ 4": whole texels of a width, whole lines of a height
abbrev pub texels : ℕ → ℕ
texels q = q / 4

-- R 390–392, 516–527, 535–538 "* 4": cells, texels or lines, in quarters
abbrev pub of_texels : ℕ → ℕ
of_texels n = n * 4

-- R 248–251, 434–437 "* 4": a scissor edge, which is never negative after check 3, in quarters
abbrev pub edge : ℤ → ℕ
edge z = of_texels (up z)

-- ---- thirty-seconds and whole rows

-- R 279 ">> 5", 461–462 "/ 32": whole texels of an image position, whole rows of an image height
abbrev pub whole_texels : ℕ → ℕ
whole_texels t = t / 32

-- R 267, 273–274, 287 "* 32": rows or columns of the image, in thirty-seconds
abbrev pub of_rows : ℕ → ℕ
of_rows n = n * 32

-- R 311 "(origin & !0x1f) / 32": whole rows of an origin, which may be negative
abbrev pub whole_rows : ℤ → ℤ
whole_rows t = floor_div t 32

-- ---- from measure to measure

-- R 263–264 "* 8": a width in the image's thirty-seconds
abbrev pub in_image : ℕ → ℕ
in_image q = q * 8

-- R 266, 268–269, 287 ">> 7": what a frame width at a scale takes of the image
abbrev pub sampled_by : ℕ → ℕ → ℕ
sampled_by q scale = q * scale / 128

-- R 239–240 "<< 10) / scale": the frame width that an image width gives at a scale
abbrev pub shown_at : ℕ → ℕ → ℕ
shown_at q scale = q * 1024 / scale

-- ---- rows and lines in 1,024ths: counts, and no scales

-- R 292 "<< 20) / scale_h": the frame lines that image rows give at a scale
abbrev pub lines_at : (rows scale : ℕ) → ℕ
lines_at rows scale = rows * 2 ^ 20 / scale

-- R 298 "<< 5": thirty-seconds of a row
abbrev pub of_position : ℤ → ℤ
of_position t = t *ℤ pos 32

-- R 302 "<< 10": whole lines
abbrev pub of_lines : ℤ → ℤ
of_lines n = n *ℤ pos 1024

-- R 306, 309, 311, 354, 368 ">> 10": the whole rows or lines of a number of 1,024ths
abbrev pub whole : ℤ → ℤ
whole n = floor_div n 1024

-- ---- numbers as measures
abbrev pub in_quarters : ℤ → Quarters
in_quarters z = record { 0 = z }

abbrev pub in_thirty_seconds : ℤ → ThirtySeconds
in_thirty_seconds z = record { 0 = z }

abbrev pub in_scale : ℕ → Scale
in_scale n = record { 0 = n }

-- R 241, 248–251 ".max(0)": a number of quarters, 0 where it would be negative
abbrev pub extent : ℤ → Quarters
extent z = in_quarters (pos (up z))

-- the conversions, from measure to measure
abbrev pub width_in_image : Quarters → ThirtySeconds
width_in_image q = in_thirty_seconds (pos (in_image (quarters q)))

abbrev pub width_sampled : Quarters → Scale → ThirtySeconds
width_sampled q scale = in_thirty_seconds (pos (sampled_by (quarters q) scale.0))

abbrev pub width_shown : Quarters → Scale → Quarters
width_shown q scale = in_quarters (pos (shown_at (quarters q) scale.0))

-- the same of numbers that may be negative: R 155 "* 4", 154 "* 16" of 64-bit words of 16-bit texels, 541 "* 32"
abbrev pub texels_wide : ℤ → Quarters
texels_wide n = in_quarters (n *ℤ pos 4)

abbrev pub words_wide : ℤ → Quarters
words_wide n = in_quarters (n *ℤ pos 16)

abbrev pub rows_high : ℤ → ThirtySeconds
rows_high n = in_thirty_seconds (n *ℤ pos 32)

-- R 308 "(image_hidden >> 5) & 0x1f": what a number of 1,024ths of a row has over whole rows
abbrev pub row_part : ℤ → ThirtySeconds
row_part n = in_thirty_seconds (pos (modulo (floor_div n 32) 32))
