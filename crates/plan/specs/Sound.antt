-- The ranges of a plan's numbers: what the set-up of each mode promises, and what its walk needs so that no sum overflows.
-- Assumes nothing.
use Rattle.std.specs.Prelude.{◌≡◌, cond, ℕ, ◌/◌, ◌^◌, ◌≤◌, ◌<◌, eqb, pos, neg_ℤ, ◌≤ℤ◌}
use Rattle.measures.specs.Range.{Below}
use Rattle.plan.specs.declared.types.Copy.{Copy}
use Rattle.plan.specs.declared.types.Scaled.{Scaled}
use Rattle.plan.specs.declared.types.First.{First}
use Rattle.plan.specs.declared.types.Entry.{Entry}
use Rattle.plan.specs.declared.types.Entry.TheVariants.{Image, Tile, Size, Load, Rect}

-- a copy plan of a frame that is not empty
pub record SoundCopy (c : Copy) : Type 0 where
  pub fmt : c.fmt ≤ 255
  pub siz : c.siz ≤ 3
  pub palette : c.palette ≤ 255
  pub rows : 1 ≤ c.rows
  pub rows' : c.rows ≤ 16383
  pub image_width : 1 ≤ c.image_width
  pub image_width' : c.image_width ≤ 16383
  pub image_height : 1 ≤ c.image_height
  pub image_height' : c.image_height ≤ 16383
  pub frame_cells : c.frame_cells ≤ 16383
  pub left : Below 12 c.left.0
  pub top : Below 12 c.top.0
  pub width : 1 ≤ c.width
  pub width' : c.width ≤ 1023
  pub height : 1 ≤ c.height
  pub height' : c.height ≤ 1023
  pub source_x : c.source_x ≤ 2047
  pub source_y : c.source_y ≤ 65535
  pub x_skip : c.x_skip ≤ 65535
  pub capacity : c.capacity ≤ 512
  pub texels_per_word : c.texels_per_word ≡ 16 / 2 ^ c.siz

-- a scaled plan that verdict 6 has passed
pub record SoundScaled (z : Scaled) : Type 0 where
  pub fmt : z.fmt ≤ 255
  pub siz : z.siz ≤ 3
  pub palette : z.palette ≤ 255
  pub line : 1 ≤ z.line
  pub line' : z.line ≤ 512
  pub image_rows : 1 ≤ z.image_rows
  pub image_rows' : z.image_rows ≤ 512
  pub frame_rows : 16 ≤ z.frame_rows
  pub frame_rows' : z.frame_rows ≤ 2 ^ 29
  pub stride : 8 ≤ z.stride
  pub stride' : z.stride ≤ 65535
  pub x_offset : z.x_offset ≤ 65535
  pub source_rows : 1 ≤ z.source_rows
  pub source_rows' : z.source_rows ≤ 16383
  pub scale_h : 1 ≤ z.scale_h.0
  pub scale_h' : z.scale_h.0 ≤ 65535
  pub scale_w' : z.scale_w.0 ≤ 65535
  pub bilerp : z.bilerp ≤ 1
  pub split : z.split ≤ 1
  pub x : Below 12 z.x.0
  pub x_end : Below 14 z.x_end.0

-- the first strip of such a plan
pub record SoundFirst (z : Scaled) (f : First) : Type 0 where
  pub count : pos 1 ≤ℤ f.count
  pub count' : f.count ≤ℤ pos (2 ^ 30)
  pub slice_rows : neg_ℤ (pos (2 ^ 27)) ≤ℤ f.slice_rows
  pub slice_rows' : f.slice_rows ≤ℤ pos 512
  pub t : Below 5 f.t.0
  pub image_row : f.image_row < z.source_rows

-- the rows that an entry loads, and the line that it sets
abbrev pub entry_rows : Entry → ℕ
entry_rows (Image fmt siz width address) = 0
entry_rows (Tile i fmt siz line tmem palette cms cmt masks maskt) = 0
entry_rows (Size i uls ult lrs lrt) = 0
entry_rows (Load i uls ult lrs lrt words rows stride start len) = rows
entry_rows (Rect i ulx uly lrx lry uls ult dsdx dtdy row) = 0

abbrev pub entry_line : Entry → ℕ
entry_line (Image fmt siz width address) = 0
entry_line (Tile i fmt siz line tmem palette cms cmt masks maskt) = line
entry_line (Size i uls ult lrs lrt) = 0
entry_line (Load i uls ult lrs lrt words rows stride start len) = 0
entry_line (Rect i ulx uly lrx lry uls ult dsdx dtdy row) = 0

-- what a tile keeps of an entry fits the tile's fields, of 8 and of 16 bits
abbrev pub Narrow : Entry → Type 0
Narrow (Image fmt siz width address) = Unit {0}
Narrow (Tile i fmt siz line tmem palette cms cmt masks maskt) =
    (fmt ≤ 255) × ((siz ≤ 255) × ((line ≤ 65535) × ((tmem ≤ 65535) × ((palette ≤ 255) × ((cms ≤ 255) × ((cmt ≤ 255) × ((masks ≤ 255) × (maskt ≤ 255))))))))
Narrow (Size i uls ult lrs lrt) = (uls ≤ 65535) × ((ult ≤ 65535) × ((lrs ≤ 65535) × (lrt ≤ 65535)))
Narrow (Load i uls ult lrs lrt words rows stride start len) = (uls ≤ 65535) × ((ult ≤ 65535) × ((lrs ≤ 65535) × (lrt ≤ 65535)))
Narrow (Rect i ulx uly lrx lry uls ult dsdx dtdy row) = Unit {0}

-- plans set tiles 0 and 7, size tile 0 and load into tile 7
abbrev pub Names : Entry → Type 0
Names (Image fmt siz width address) = Unit {0}
Names (Tile i fmt siz line tmem palette cms cmt masks maskt) = i ≡ cond (eqb i 7) 7 0
Names (Size i uls ult lrs lrt) = i ≡ 0
Names (Load i uls ult lrs lrt words rows stride start len) = i ≡ 7
Names (Rect i ulx uly lrx lry uls ult dsdx dtdy row) = Unit {0}

-- rows and line so few that their product fits a word
pub record EntryIn (e : Entry) : Type 0 where
  pub rows : entry_rows e ≤ 16384
  pub line : entry_line e ≤ 65535
  pub narrow : Narrow e
  pub names : Names e
