-- The parts of the writer: what each of its functions asks and gives.
-- Assumes nothing.
use Rattle.std.specs.Prelude.{ℕ, ◌*◌, ◌^◌, ◌≤◌, ◌<◌}
use Rattle.object.specs.declared.types.ObjBg.{ObjBg}
use Rattle.picture.specs.declared.types.Picture.{Picture}
use Rattle.picture.specs.Writer.{object_with}

abbrev pub object_of : Picture → ObjBg
object_of p = object_with p.width p.height p.fmt p.siz p.pointer p.line p.rows

-- numbers that fit their fields: those of a picture, its line and the rows of a strip
pub record Fits (w h l r : ℕ) : Type 0 where
  pub width : w ≤ 16383
  pub height : h ≤ 16383
  pub line : l ≤ 65535
  pub rows : r ≤ 16383
  pub product : r * 4 * l < 2 ^ 32
