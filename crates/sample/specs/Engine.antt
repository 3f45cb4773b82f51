-- What one cell of a copy background's clipped frame shows, from the object's fields and the scissor: section 16 of docs/SPECIFICATION.md, which is D.
-- Assumes nothing.
use Rattle.std.specs.Prelude.{true, cond, Ok, Err, ◌&&◌, List, ℕ, ◌+◌, ◌%◌, ltb, eqb, ℤ, pos, ◌-ℤ◌}
use Rattle.signed.specs.Floor.{modulo}
use Rattle.measures.specs.Measure.{quarters, thirty_seconds, texels, edge, whole_texels}
use Rattle.object.specs.declared.types.ObjBg.{ObjBg}
use Rattle.object.specs.declared.types.Scissor.{Scissor}
use Rattle.object.specs.Layout.{decode}
use Rattle.checks.specs.Check.{Checked, checked_of}
use Rattle.strips.specs.declared.frame.Axis.{Axis}
use Rattle.strips.specs.Frame.{axis_of}
use Rattle.sample.specs.declared.types.Sample.{Sample}
use Rattle.sample.specs.declared.types.Sample.TheVariants.{Texel, Outside, Refused}

-- ---- the clipped frame

-- across and down: its cells, and the cells skipped before them
abbrev axis_across : ObjBg → Scissor → Axis
axis_across bg s = axis_of bg.frame_x.0 (quarters bg.frame_w) (edge s.ulx) (edge s.lrx)

abbrev axis_down : ObjBg → Scissor → Axis
axis_down bg s = axis_of bg.frame_y.0 (quarters bg.frame_h) (edge s.uly) (edge s.lry)

unfoldable pub frame_columns : ObjBg → Scissor → ℕ
frame_columns bg s = (axis_across bg s).cells

unfoldable pub frame_lines : ObjBg → Scissor → ℕ
frame_lines bg s = (axis_down bg s).cells

-- ---- the image's column and row, before the wrap

-- D "image_x / 32 plus cells skipped on the left plus the cell's column"
unfoldable pub plain_column : ObjBg → Scissor → ℕ → ℕ
plain_column bg s i = whole_texels (thirty_seconds bg.image_x) + (axis_across bg s).skip + i

-- D "When flipped it is image_x / 32 + frame_w / 4 − 1 less skipped cells less the cell's column"
unfoldable pub flipped_column : ObjBg → Scissor → ℕ → ℤ
flipped_column bg s i = pos (whole_texels (thirty_seconds bg.image_x) + texels (quarters bg.frame_w)) -ℤ pos 1 -ℤ pos (axis_across bg s).skip -ℤ pos i

-- D "image_y / 32 plus lines skipped at the top plus the cell's line"
unfoldable pub plain_row : ObjBg → Scissor → ℕ → ℕ
plain_row bg s j = whole_texels (thirty_seconds bg.image_y) + (axis_down bg s).skip + j

-- ---- the answer

-- D "modulo the image's columns", and D "modulo the image's rows"
abbrev pub texel_of : ObjBg → Scissor → (column line : ℕ) → Sample
texel_of bg s i j = Texel (modulo (cond (eqb bg.image_flip 1) (flipped_column bg s i) (pos (plain_column bg s i))) (texels (quarters bg.image_w))) (plain_row bg s j % texels (quarters bg.image_h))

-- D "A cell outside the clipped frame is answered as outside"
unfoldable pub sample_in : ObjBg → Scissor → (column line : ℕ) → Sample
sample_in bg s i j = cond (ltb i (frame_columns bg s) && ltb j (frame_lines bg s)) (texel_of bg s i j) Outside

-- D "Refused: 2 to 5, in their order": the first verdict of the checks, or what the cell shows
abbrev pub unless_refused : Checked → Sample → Sample
unless_refused (Err v) shown = Refused v
unless_refused (Ok bg) shown = shown

-- for pointers of p bytes; the checks are those of opcode 10, so that 1 is none of them
unfoldable pub sample_of : ℕ → List ℕ → Scissor → (column line : ℕ) → Sample
sample_of p bs s i j = unless_refused (checked_of p bs 10 s) (sample_in (decode p true bs) s i j)
