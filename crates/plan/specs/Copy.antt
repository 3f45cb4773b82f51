-- The copy plan: R 414–556 `bg_copy`; D is docs/SPECIFICATION.md, section 7.
-- After the test for an empty frame nothing here is negative, and every difference of naturals is of a number and one that is no greater.
-- Assumes nothing.
use Rattle.std.specs.Prelude.{Bool, true, false, cond, ◌||◌, ℕ, zero, suc, ◌+◌, ◌-◌, ◌*◌, ◌/◌, ◌%◌, ◌^◌, min, max, ltb, eqb, ℤ, pos, neg_ℤ, ◌+ℤ◌, ◌-ℤ◌}
use Rattle.signed.specs.Diff.{up}
use Rattle.signed.specs.Floor.{modulo}
use Rattle.signed.specs.Cast.{min_z, i16}
use Rattle.object.specs.declared.types.Scissor.{Scissor}
use Rattle.object.specs.declared.types.ObjBg.{ObjBg}
use Rattle.measures.specs.Measure.{quarters, thirty_seconds, texels, of_texels, edge, whole_texels, in_quarters, rows_high}
use Rattle.plan.specs.Out.{Out, ◌>>=◌, ◌>>◌, yield, emit, refuse}
use Rattle.plan.specs.declared.types.Entry.TheVariants.{Image, Tile, Size, Rect}
use Rattle.plan.specs.declared.types.Copy.{Copy}
use Rattle.plan.specs.declared.types.Strip.{Strip}
use Rattle.object.specs.declared.types.Verdict.TheVariants as verdict
use Rattle.plan.specs.Load.{load_tile}

-- R 464–468, D "copy 256 where fmt is 2 or siz is 3, else 512"
abbrev pub copy_capacity : ℕ → ℕ → ℕ
copy_capacity fmt siz = cond (eqb fmt 2 || eqb siz 3) 256 512

-- R 417–419, 431–439, 460–469: the frame clipped by the scissor in cells of 4 quarters, and where it starts in the image
unfoldable pub copy_of : ObjBg → Scissor → (address : ℕ) → Copy
copy_of bg s address =
    let left = max (up bg.frame_x.0) (edge s.ulx) in
    let top = max (up bg.frame_y.0) (edge s.uly) in
    let right = min_z (bg.frame_x.0 +ℤ pos (quarters bg.frame_w)) (pos (edge s.lrx)) in
    let bottom = min_z (bg.frame_y.0 +ℤ pos (quarters bg.frame_h)) (pos (edge s.lry)) in
    record {
      fmt = bg.image_fmt;
      siz = bg.image_siz;
      palette = bg.image_pal % 256;
      flip = eqb (bg.image_flip % 2) 1;
      address = address;
      rows = bg.tmem_h / 4;
      image_width = texels (quarters bg.image_w);
      image_height = texels (quarters bg.image_h);
      frame_cells = texels (quarters bg.frame_w);
      left = in_quarters (pos left);
      top = in_quarters (pos top);
      width = texels (up (right -ℤ pos left));
      height = texels (up (bottom -ℤ pos top));
      source_x = whole_texels (thirty_seconds bg.image_x);
      source_y = whole_texels (thirty_seconds bg.image_y) + texels (up (pos top -ℤ bg.frame_y.0));
      x_skip = texels (up (pos left -ℤ bg.frame_x.0));
      capacity = copy_capacity bg.image_fmt bg.image_siz;
      texels_per_word = 16 / 2 ^ bg.image_siz;
    }

-- R 441 `width <= 0 || height <= 0`
abbrev pub copy_empty : Copy → Bool
copy_empty c = eqb c.width 0 || eqb c.height 0

-- R 453–459: the texture image's width field
abbrev pub field : Copy → ℕ
field c = (c.image_width - 1) % 2 ^ 16

-- R 476–480: the image column of cell x, before the wrap
abbrev pub column : Copy → ℕ → ℤ
column c x = cond c.flip (pos (c.source_x + c.frame_cells) -ℤ pos (1 + c.x_skip + x)) (pos (c.source_x + c.x_skip + x))

-- R 481–489: the strip that starts at cell x
unfoldable pub strip_of : Copy → ℕ → Strip
strip_of c x =
    let sx = modulo (column c x) c.image_width in
    let strip_width = min (c.width - x) (cond c.flip (sx + 1) (c.image_width - sx)) in
    let source_left = cond c.flip (sx + 1 - strip_width) sx in
    let aligned_left = source_left / c.texels_per_word * c.texels_per_word in
    let offset = source_left - aligned_left in
    let load_width = offset + strip_width in
    let divisor : ℕ = cond (eqb c.siz 3) 32 16 in
    record {
      strip_width = strip_width;
      aligned_left = aligned_left;
      offset = offset;
      load_width = load_width;
      line = (load_width * 2 ^ c.siz + divisor - 1) / divisor;
    }

-- a bound of n texels, in quarters: (n * 4) as u16
abbrev pub bound : ℕ → ℕ
bound n = of_texels n % 2 ^ 16

-- R 494–549: tile 7, tile 0, size of 0, load into 7, rectangle; D "Rectangle ends are inclusive"
unfoldable pub strip_entries : Copy → (y sy strip_height x : ℕ) → Strip → Out (Unit {0})
strip_entries c y sy strip_height x s =
    let line = s.line % 2 ^ 16 in
    emit (Tile 7 c.fmt c.siz line 0 c.palette 0 0 0 0)
    >> emit (Tile 0 c.fmt c.siz line 0 c.palette (cond c.flip 1 0) 0 (cond c.flip 15 0) 0)
    >> emit (Size 0 0 0 (bound (s.load_width - 1)) (bound (strip_height - 1)))
    >> load_tile c.siz (field c) c.address 7 (bound s.aligned_left) (bound sy) (bound (s.aligned_left + s.load_width - 1)) (bound (sy + strip_height - 1))
    >> emit
    (Rect 0 (quarters c.left + of_texels x) (quarters c.top + of_texels y) (quarters c.left + of_texels (x + s.strip_width - 1)) (quarters c.top + of_texels (y + strip_height - 1))
    (i16 (rows_high (cond c.flip (neg_ℤ (pos s.load_width)) (pos s.offset))).0) (pos 0) (pos 0x1000) (pos 0x400) sy)

-- R 490–493: D verdict 7 "a copy strip's line × height exceeds capacity"
unfoldable pub strip : Copy → (y sy strip_height x : ℕ) → Strip → Out ℕ
strip c y sy strip_height x s =
    elim (ltb c.capacity (s.line * strip_height)) [
      | true ↦ refuse verdict.TooBig
      | false ↦ strip_entries c y sy strip_height x s >> yield (x + s.strip_width)
    ]

-- R 475 `while x < width`: a strip is at least one cell wide, so that `width` rounds are enough
unfoldable pub columns : ℕ → Copy → (y sy strip_height x : ℕ) → Out (Unit {0})
columns zero c y sy strip_height x = yield tt
columns (suc n) c y sy strip_height x =
    elim (ltb x c.width) [
      | true ↦ strip c y sy strip_height x (strip_of c x) >>= (λ next. columns n c y sy strip_height next)
      | false ↦ yield tt
    ]

-- R 472
abbrev pub strip_row_of : Copy → ℕ → ℕ
strip_row_of c y = (c.source_y + y) % c.image_height

-- R 473, D "the least of tmem_h / 4, lines left, image rows left"
abbrev pub strip_height_of : Copy → ℕ → ℕ
strip_height_of c y = min (min c.rows (c.height - y)) (c.image_height - strip_row_of c y)

-- R 471 `while y < height`: a strip is at least one line high, so that `height` rounds are enough
unfoldable pub rows : ℕ → Copy → ℕ → Out (Unit {0})
rows zero c y = yield tt
rows (suc n) c y =
    elim (ltb y c.height) [
      | true ↦ columns c.width c y (strip_row_of c y) (strip_height_of c y) 0 >>= (λ _. rows n c (y + strip_height_of c y))
      | false ↦ yield tt
    ]

-- R 453–555: D "One texture image entry (width field image columns − 1), then strips row by row, left to right"
unfoldable pub copy_plan : Copy → Out (Unit {0})
copy_plan c = emit (Image c.fmt c.siz (field c) c.address) >> rows c.height c 0
