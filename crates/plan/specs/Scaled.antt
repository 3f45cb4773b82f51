-- The scaled plan: R 235–412 `bg_1cyc` over R 162–233 `load_1cyc` and R 118–159 `load_1cyc_tile`; D is docs/SPECIFICATION.md, section 8.
-- What can be negative is a ℤ. A natural difference stands for max(0, ·) only where the Rust tests or cuts the number at 0.
-- Assumes nothing.
use Rattle.std.specs.Prelude.{Bool, true, false, cond, ◌||◌, ℕ, zero, suc, ◌+◌, ◌-◌, ◌*◌, ◌/◌, ◌%◌, ◌^◌, min, leb, eqb, ℤ, pos, neg_ℤ, ◌+ℤ◌, ◌-ℤ◌, ◌*ℤ◌}
use Rattle.std.specs.Int.Signed.{lt_z, le_z}
use Rattle.signed.specs.Diff.{up}
use Rattle.signed.specs.Floor.{floor_div, modulo}
use Rattle.signed.specs.Cast.{min_z, clear_low, u16, i16}
use Rattle.object.specs.declared.types.Scissor.{Scissor}
use Rattle.object.specs.declared.types.ObjBg.{ObjBg}
use Rattle.measures.specs.Measure.{quarters, thirty_seconds, texels, of_texels, edge, whole_texels, of_rows, whole_rows, in_image, sampled_by, shown_at, lines_at, of_position, of_lines, whole, in_quarters, in_thirty_seconds, extent, texels_wide, words_wide, row_part}
use Rattle.plan.specs.declared.types.Entry.{Entry}
use Rattle.plan.specs.Out.{Out, ◌>>=◌, ◌>>◌, yield, emit, refuse}
use Rattle.plan.specs.declared.types.Entry.TheVariants.{Image, Tile, Size, Rect}
use Rattle.plan.specs.declared.types.Clip.{Clip}
use Rattle.plan.specs.declared.types.Start.{Start}
use Rattle.plan.specs.declared.types.Scaled.{Scaled}
use Rattle.plan.specs.declared.types.First.{First}
use Rattle.plan.specs.declared.types.Source.{Source}
use Rattle.plan.specs.declared.types.Walk.{Walk}
use Rattle.object.specs.declared.types.Verdict.TheVariants as verdict
use Rattle.plan.specs.Load.{load_tile, source_address}

-- R 239–240: the frame's greatest extent, by an image extent and its scale
abbrev pub max_of : ℕ → ℕ → ℤ
max_of n sc = clear_low (pos (shown_at n sc) -ℤ pos 1) 4

-- R 239–255. x is max(x, 4 × ulx), y likewise, so that `up` cuts nothing there; `width` and `height` are 0 where the Rust's are at most 0
unfoldable pub clip_of : ObjBg → Scissor → Clip
clip_of bg s =
    let removed_w = up (pos (quarters bg.frame_w) -ℤ max_of (quarters bg.image_w) bg.scale_w.0) in
    let width = pos (quarters bg.frame_w) -ℤ pos removed_w in
    let height = min_z (pos (quarters bg.frame_h)) (max_of (quarters bg.image_h) bg.scale_h.0) in
    let flip = eqb (bg.image_flip % 2) 1 in
    let x = bg.frame_x.0 +ℤ pos (cond flip removed_w 0) in
    let y = bg.frame_y.0 in
    let left = up (pos (edge s.ulx) -ℤ x) in
    let top = up (pos (edge s.uly) -ℤ y) in
    let right = up (width -ℤ pos (edge s.lrx) +ℤ x) in
    let bottom = up (height -ℤ pos (edge s.lry) +ℤ y) in
    record {
      flip = flip;
      left = in_quarters (pos left);
      top = in_quarters (pos top);
      right = in_quarters (pos right);
      x = extent (x +ℤ pos left);
      y = extent (y +ℤ pos top);
      width = extent (width -ℤ pos (left + right));
      height = extent (height -ℤ pos (top + bottom));
    }

-- R 257 `width <= 0 || height <= 0`
abbrev pub scaled_empty : Clip → Bool
scaled_empty c = eqb (quarters c.width) 0 || eqb (quarters c.height) 0

-- R 263–264, 268–277
unfoldable pub start_of : ObjBg → Clip → Start
start_of bg c =
    let source_w = in_image (quarters bg.image_w) in
    let source_h = in_image (quarters bg.image_h) in
    let image_x = thirty_seconds bg.image_x + sampled_by (quarters (cond c.flip c.right c.left)) bg.scale_w.0 in
    let carry = image_x / source_w in
    let image_y = thirty_seconds bg.image_y + sampled_by (quarters c.top) bg.scale_h.0 + of_rows carry in
    let wrap = image_y / source_h in
    record {
      image_x = in_thirty_seconds (pos (image_x % source_w));
      image_y = in_thirty_seconds (pos (image_y % source_h));
      origin = in_thirty_seconds (bg.image_y_orig.0 +ℤ pos (of_rows carry) -ℤ pos (wrap * source_h));
      carry = carry;
      wrap = wrap;
    }

-- R 282–286, D "scaled 480 where siz is 3, else 256 where fmt is 2, else 512"
abbrev pub scaled_capacity : ℕ → ℕ → ℕ
scaled_capacity fmt siz = cond (eqb siz 3) 480 (cond (eqb fmt 2) 256 512)

-- R 260, 265–267, 278–293, 321–326. `image_rows` is 0 where the Rust's is at most 0
unfoldable pub scaled_of : ObjBg → (mode address : ℕ) → Clip → Start → Scaled
scaled_of bg mode address c i =
    let source_w = in_image (quarters bg.image_w) in
    let bilerp = mode / 8 % 2 in
    let image_x = thirty_seconds i.image_x in
    let image_width = sampled_by (quarters c.width) bg.scale_w.0 in
    let shift = 512 / 2 ^ bg.image_siz in
    let three = eqb bg.image_siz 3 in
    let capacity = scaled_capacity bg.image_fmt bg.image_siz in
    let max_slice : ℕ = cond three 0x2800 (min (sampled_by (quarters bg.frame_w) bg.scale_w.0 + of_rows bilerp) source_w) in
    let line = (max_slice + (shift - 1)) / shift + 1 in
    let image_rows = capacity / line - bilerp in
    let s = image_x % shift in
    record {
      fmt = bg.image_fmt;
      siz = bg.image_siz;
      palette = bg.image_pal % 256;
      address = address;
      x = c.x;
      x_end = in_quarters (c.x.0 +ℤ c.width.0);
      scale_w = bg.scale_w;
      scale_h = bg.scale_h;
      bilerp = bilerp;
      split = cond (leb source_w (image_x + (image_width + of_rows bilerp))) 1 0;
      source_rows = whole_texels (in_image (quarters bg.image_h));
      line = line;
      image_rows = image_rows;
      frame_rows = lines_at image_rows bg.scale_h.0;
      stride = source_w / shift * 8;
      x_offset = image_x / shift * 8;
      s = in_thirty_seconds (cond c.flip (neg_ℤ (pos (s + image_width))) (pos s));
    }

-- R 294, D verdict 6 "image_h under 4, R at most 0, or `stride` 0" (`frame_rows <= 0` needs R at most 0)
abbrev pub slices_bad : Scaled → Bool
slices_bad z = eqb z.source_rows 0 || (eqb z.image_rows 0 || eqb z.stride 0)

-- R 298–311; D "A negative distance from the origin is rounded toward minus infinity"
unfoldable pub first_of : Scaled → Start → First
first_of z i =
    let image_offset = of_position (i.image_y.0 -ℤ i.origin.0) in
    let frame_offset = of_lines (floor_div image_offset z.scale_h.0) in
    let slice = floor_div frame_offset z.frame_rows in
    let slice_start = pos z.frame_rows *ℤ slice in
    let hidden = frame_offset -ℤ clear_low slice_start 1024 in
    let image_hidden = whole hidden *ℤ pos z.scale_h.0 in
    record {
      slice = slice;
      image_hidden = image_hidden;
      count = pos (modulo slice_start 1024) +ℤ pos z.frame_rows -ℤ hidden;
      t = row_part image_hidden;
      slice_rows = pos z.image_rows -ℤ whole image_hidden;
      image_row = modulo (pos z.image_rows *ℤ slice +ℤ whole_rows i.origin.0 +ℤ whole image_hidden) z.source_rows;
    }

-- R 133: the loads' texels are of 16 bits, or of 32 for siz 3
abbrev pub size_of : Scaled → ℕ
size_of z = cond (eqb z.siz 3) 3 2

-- R 134–146, 215–223, 327–335: tile 7 at a destination
abbrev pub tile7 : Scaled → ℤ → Entry
tile7 z destination = Tile 7 0 (size_of z) (z.line % 2 ^ 16) (u16 destination) 0 0 0 0 0

-- R 148: the width field of the loads' texture image
abbrev pub field_of : Scaled → ℕ
field_of z = u16 (pos (z.stride / 2) -ℤ pos 1)

-- R 149–157: the load's right and lower bound; with 32 bits a load has one row
abbrev pub lrs_of : ℤ → ℕ
lrs_of width = u16 (words_wide (width -ℤ pos 1)).0

abbrev pub lrt_of : Scaled → ℤ → ℕ
lrt_of z rows = cond (eqb z.siz 3) 0 (u16 ((texels_wide rows).0 -ℤ pos 1))

abbrev pub load_of_rows : Scaled → (pointer : ℕ) → (rows width : ℤ) → Out (Unit {0})
load_of_rows z pointer rows width = load_tile (size_of z) (field_of z) pointer 7 0 0 (lrs_of width) (lrt_of z rows)

-- R 147–158: the texture image and the load
unfoldable pub load_part : Scaled → (pointer : ℕ) → (rows width : ℤ) → Out (Unit {0})
load_part z pointer rows width = emit (Image 0 (size_of z) (field_of z) pointer) >> load_of_rows z pointer rows width

-- R 118–159 `load_1cyc_tile`; D verdict 8 "a scaled load's rows or width at most 0, or destination negative"
unfoldable pub load_1cyc_tile : Scaled → (pointer : ℕ) → (rows destination width : ℤ) → (set_tile : Bool) → Out (Unit {0})
load_1cyc_tile z pointer rows destination width set_tile =
    elim (le_z rows (pos 0) || (le_z width (pos 0) || lt_z destination (pos 0))) [
      | true ↦ refuse verdict.Piece
      | false ↦ cond set_tile (emit (tile7 z destination)) (yield tt) >> load_part z pointer rows width
    ]

-- R 189–190, 201–203: one row back where a load must start at an even row
abbrev pub back : Scaled → ℕ → ℕ → Out ℕ
back z odd p = elim (eqb odd 0) [ true ↦ yield p | false ↦ source_address p (neg_ℤ (pos z.stride)) ]

-- R 184–195: the rows from the top, after the image's last row
unfoldable pub from_top : Scaled → (remain load_rows : ℤ) → Out (Unit {0})
from_top z y2 load_rows =
    let l2 = load_rows -ℤ y2 in
    let odd = modulo y2 2 in
    elim (lt_z (pos 0) l2) [
      | true ↦ source_address z.address (pos z.x_offset) >>= (λ p2. back z odd p2 >>= (λ p2'.
          load_1cyc_tile z p2' (l2 +ℤ pos odd) ((y2 -ℤ pos odd) *ℤ pos z.line) (pos z.line) true))
      | false ↦ yield tt
    ]

-- R 196–211: the image's last row where it runs over into the first, in two parts
unfoldable pub split_row : Scaled → (pointer : ℕ) → (loadable : ℤ) → Out (Unit {0})
split_row z pointer loadable =
    let odd = modulo loadable 2 in
    let y1 = (loadable -ℤ pos odd) *ℤ pos z.line in
    let l1 = pos (odd + 1) in
    let a = floor_div (pos z.stride -ℤ pos z.x_offset) 8 in
    elim (eqb z.split 0) [
      | true ↦ yield tt
      | false ↦ source_address pointer (loadable *ℤ pos z.stride) >>= (λ p1. back z odd p1 >>= (λ p1a. back z odd z.address >>= (λ p1b.
          load_1cyc_tile z p1b l1 (y1 +ℤ a) (pos z.line -ℤ a) true >> load_1cyc_tile z p1a l1 y1 a true)))
    ]

-- R 212–224: the rows before the image's last
unfoldable pub up_to_end : Scaled → (pointer : ℕ) → (loadable : ℤ) → Out (Unit {0})
up_to_end z pointer loadable =
    elim (lt_z (pos 0) loadable) [
      | true ↦ load_1cyc_tile z pointer loadable (pos 0) (pos z.line) true
      | false ↦ emit (tile7 z (pos 0))
    ]

-- `pointer` and `remain` after rows, where rows are left or after a wrap: R 225–231 (`d2` is −`remain` there), and R 356–362 of a pass without a line
unfoldable pub advance : Scaled → Source → (rows : ℤ) → Out Source
advance z src rows =
    let remain = src.remain -ℤ rows in
    elim (lt_z (pos 0) remain) [
      | true ↦ source_address src.pointer (pos z.stride *ℤ rows) >>= (λ p. yield (record { pointer = p; remain = remain }))
      | false ↦ source_address z.address (neg_ℤ remain *ℤ pos z.stride +ℤ pos z.x_offset) >>= (λ p.
          yield (record { pointer = p; remain = remain +ℤ pos z.source_rows }))
    ]

-- R 162–233 `load_1cyc`
unfoldable pub load_1cyc : Scaled → Source → (draw_rows : ℤ) → Out Source
load_1cyc z src draw_rows =
    let load_rows = draw_rows +ℤ pos z.bilerp in
    let loadable = src.remain -ℤ pos z.split in
    elim (le_z load_rows loadable) [
      | true ↦ load_1cyc_tile z src.pointer load_rows (pos 0) (pos z.line) false
          >> source_address src.pointer (pos z.stride *ℤ draw_rows) >>= (λ p. yield (record { pointer = p; remain = src.remain -ℤ draw_rows }))
      | false ↦ from_top z src.remain load_rows >> split_row z src.pointer loadable >> up_to_end z src.pointer loadable >> advance z src draw_rows
    ]

-- R 407–409: the walk after a pass
abbrev pub next_pass : Scaled → (frame_y : ℕ) → (frame_remain count : ℤ) → Source → Walk
next_pass z frame_y frame_remain count source =
    record { frame_y = frame_y; frame_remain = frame_remain; count = count +ℤ pos z.frame_rows; slice_rows = pos z.image_rows; t = in_thirty_seconds (pos 0); source = source }

-- D "each scaled rectangle carries its image row, (`source_rows` − `remain`) modulo `source_rows`"
abbrev pub row_of : Scaled → ℤ → ℕ
row_of z remain = modulo (pos z.source_rows -ℤ remain) z.source_rows

-- R 366: the lines left after a pass that draws; below 0 where it would draw too many
abbrev pub left_after : Walk → (draw : ℕ) → ℤ
left_after w draw = w.frame_remain -ℤ pos draw

-- R 367–368: the lines of the pass, or at the end those that are left
abbrev pub lines_of : Walk → (draw : ℕ) → ℕ
lines_of w draw = cond (lt_z (left_after w draw) (pos 0)) (up (pos draw +ℤ left_after w draw)) draw

-- R 369–370: the rows of the pass, fewer at the end
abbrev pub rows_of : Scaled → Walk → (draw : ℕ) → ℤ
rows_of z w draw =
    cond (lt_z (left_after w draw) (pos 0)) (min_z (w.slice_rows +ℤ whole (left_after w draw *ℤ pos z.scale_h.0) +ℤ pos 1) (pos z.image_rows)) w.slice_rows

-- R 388–404
abbrev pub rect_of : Scaled → Walk → (lines : ℕ) → Entry
rect_of z w lines =
    Rect 0 (quarters z.x) (of_texels w.frame_y) (quarters z.x_end) (of_texels (w.frame_y + lines)) (i16 z.s.0) (i16 w.t.0) (i16 (pos z.scale_w.0)) (i16 (pos z.scale_h.0)) (row_of z w.source.remain)

-- R 365, 405–409: the walk after a pass that draws
abbrev pub after_draw : Scaled → Walk → (draw lines : ℕ) → Source → Walk
after_draw z w draw lines source = next_pass z (w.frame_y + lines) (left_after w draw) (pos (modulo w.count 1024)) source

-- R 364–405: a pass that draws `draw` lines or, at the end, the lines that are left
unfoldable pub draw_pass : Scaled → Walk → (draw : ℕ) → Out Walk
draw_pass z w draw =
    load_1cyc z w.source (rows_of z w draw) >>= (λ source. emit (rect_of z w (lines_of w draw)) >> yield (after_draw z w draw (lines_of w draw) source))

-- R 356–362: a pass without a line
unfoldable pub idle_pass : Scaled → Walk → Out Walk
idle_pass z w = advance z w.source w.slice_rows >>= (λ source. yield (next_pass z w.frame_y w.frame_remain w.count source))

-- R 354: the lines that a pass draws, 0 where the Rust's number is at most 0
abbrev pub draw_of : Walk → ℕ
draw_of w = up (whole w.count)

-- R 354–355 `draw <= 0`
unfoldable pub pass : Scaled → Walk → Out Walk
pass z w = let draw = draw_of w in elim (eqb draw 0) [ true ↦ idle_pass z w | false ↦ draw_pass z w draw ]

-- R 353 `while frame_remain > 0`
unfoldable pub passes : ℕ → Scaled → Walk → Out (Unit {0})
passes zero z w = yield tt
passes (suc n) z w =
    elim (lt_z (pos 0) w.frame_remain) [
      | true ↦ pass z w >>= (λ next. passes n z next)
      | false ↦ yield tt
    ]

-- R 261–262, 307–309, 352: the walk before the first pass
abbrev pub first_pass : Scaled → Clip → First → ℕ → Walk
first_pass z c f p =
    record { frame_y = texels (quarters c.y); frame_remain = pos (texels (quarters c.height)); count = f.count; slice_rows = f.slice_rows; t = f.t; source = record { pointer = p; remain = pos z.source_rows -ℤ pos f.image_row } }

-- R 321–411: three entries, then passes; D "At most 64 passes in a row draw no line", so that 65 for each line are enough
unfoldable pub scaled_plan : Scaled → Clip → First → Out (Unit {0})
scaled_plan z c f =
    source_address z.address (pos (z.stride * f.image_row + z.x_offset)) >>= (λ p.
    emit (tile7 z (pos 0))
    >> emit (Tile 0 z.fmt z.siz (z.line % 2 ^ 16) 0 z.palette 1 1 15 15)
    >> emit (Size 0 0 0 0 0)
    >> passes (65 * texels (quarters c.height)) z (first_pass z c f p))
