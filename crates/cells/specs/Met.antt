-- How the rectangles of a list of entries meet the squares of the screen, and where its loads lie: from the entries alone. Lengths on the screen are in quarters, of which a cell has 4. D is docs/SPECIFICATION.md.
-- Assumes nothing.
use Rattle.std.specs.Prelude.{◌≡◌, Bool, cond, ◌&&◌, Option, Some, None, List, [], ◌∷◌, ℕ, ◌+◌, ◌-◌, ◌*◌, ◌≤◌, ◌<◌, ltb, leb, eqb}
use Rattle.measures.specs.Measure.{quarters, of_texels, texels}
use Rattle.plan.specs.declared.types.Copy.{Copy}
use Rattle.plan.specs.declared.types.Entry.{Entry}
use Rattle.plan.specs.declared.types.Entry.TheVariants.{Image, Tile, Size, Load, Rect}

-- ---- rectangles

-- along one axis: the quarters at .. at + side − 1 and a rectangle's from .. to + 3 have one in common, D "Rectangle ends are inclusive" and name cells
abbrev pub overlaps : (side from to at : ℕ) → Bool
overlaps side from to at = ltb from (at + side) && ltb at (to + 4)

-- the rectangle meets the square of that side at (x, y): of side 4 a cell, of side 1 a quarter by a quarter
abbrev pub meets : (side ulx uly lrx lry x y : ℕ) → Bool
meets side ulx uly lrx lry x y = overlaps side ulx lrx x && overlaps side uly lry y

-- how many rectangles meet that square
unfoldable pub met_at : (side x y : ℕ) → List Entry → ℕ
met_at side x y [] = 0
met_at side x y (Image fmt siz width address ∷ es) = met_at side x y es
met_at side x y (Tile i fmt siz line tmem palette cms cmt masks maskt ∷ es) = met_at side x y es
met_at side x y (Size i uls ult lrs lrt ∷ es) = met_at side x y es
met_at side x y (Load i uls ult lrs lrt words rows stride start len ∷ es) = met_at side x y es
met_at side x y (Rect i ulx uly lrx lry uls ult dsdx dtdy row ∷ es) = cond (meets side ulx uly lrx lry x y) 1 0 + met_at side x y es

-- the quarter at x lies among those of n cells from `edge` on
abbrev pub between : (edge n x : ℕ) → Bool
between edge n x = leb edge x && ltb x (edge + of_texels n)

-- the quarter at (x, y) lies in a frame of so many cells
abbrev pub inside : (left top width height x y : ℕ) → Bool
inside left top width height x y = between left width x && between top height y

-- D "the rectangles meet each cell of the clipped frame exactly once and meet nothing else": no cell is met twice, not even in part, and of all quarters those of the frame alone are met, once each
pub record EachCellOnce (left top width height : ℕ) (es : List Entry) : Type 0 where
  pub cells : (i j : ℕ) → i < width → j < height → met_at 4 (left + of_texels i) (top + of_texels j) es ≡ 1
  pub units : (x y : ℕ) → met_at 1 x y es ≡ cond (inside left top width height x y) 1 0

-- ---- loads

-- D "Each load's columns and rows lie inside the image, and its line times its rows is at most the capacity"; nothing is claimed of the bytes that fill a row's last word
pub record LoadInside (columns rows capacity line uls ult lrs lrt n : ℕ) : Type 0 where
  pub left : texels uls ≤ texels lrs
  pub right : texels lrs < columns
  pub top : texels ult ≤ texels lrt
  pub bottom : texels lrt < rows
  pub height : n ≡ texels lrt - texels ult + 1
  pub fits : line * n ≤ capacity

-- each load of the list stands after a setting of tile 7, and has the line of the last one; l is that line before the list, none where tile 7 was not set
abbrev pub LoadsInside : (columns rows capacity : ℕ) → (l : Option ℕ) → List Entry → Type 0
LoadsInside columns rows capacity l [] = Unit {0}
LoadsInside columns rows capacity l (Image fmt siz width address ∷ es) = LoadsInside columns rows capacity l es
LoadsInside columns rows capacity l (Tile i fmt siz line tmem palette cms cmt masks maskt ∷ es) = LoadsInside columns rows capacity (cond (eqb i 7) (Some line) l) es
LoadsInside columns rows capacity l (Size i uls ult lrs lrt ∷ es) = LoadsInside columns rows capacity l es
LoadsInside columns rows capacity None (Load i uls ult lrs lrt words n stride start len ∷ es) = ⊥
LoadsInside columns rows capacity (Some line) (Load i uls ult lrs lrt words n stride start len ∷ es) = LoadInside columns rows capacity line uls ult lrs lrt n × LoadsInside columns rows capacity (Some line) es
LoadsInside columns rows capacity l (Rect i ulx uly lrx lry uls ult dsdx dtdy row ∷ es) = LoadsInside columns rows capacity l es

-- ---- both, of a copy plan's entries, by its frame

pub record EveryCellOnce (c : Copy) (es : List Entry) : Type 0 where
  pub cells : EachCellOnce (quarters c.left) (quarters c.top) c.width c.height es
  pub loads : LoadsInside c.image_width c.image_height c.capacity None es
