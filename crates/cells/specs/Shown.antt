-- What the rectangles of a list of entries show, by the loads before them: from the entries alone, 16.3 of docs/SPECIFICATION.md, which is D.
-- Assumes nothing.
use Rattle.std.specs.Prelude.{◌≡◌, true, cond, Option, Some, None, List, [], ◌∷◌, ℕ, ◌+◌, ◌-◌, ◌/◌, ◌<◌, ◌≤◌, ℤ, pos, negsuc, ◌+ℤ◌}
use Rattle.signed.specs.Floor.{floor_div}
use Rattle.measures.specs.Measure.{texels}
use Rattle.plan.specs.declared.types.Copy.{Copy}
use Rattle.plan.specs.declared.types.Entry.{Entry}
use Rattle.plan.specs.declared.types.Entry.TheVariants.{Image, Tile, Size, Load, Rect}
use Rattle.cells.specs.Met.{meets}

-- the texels of the image that a load has: its first column and row, and how many there are of each
pub record Loaded : Type 0 where
  pub column : ℕ
  pub columns : ℕ
  pub row : ℕ
  pub rows : ℕ

abbrev pub loaded_by : (uls ult lrs lrt : ℕ) → Loaded
loaded_by uls ult lrs lrt = record { column = texels uls; columns = texels lrs - texels uls + 1; row = texels ult; rows = texels lrt - texels ult + 1 }

-- D "0 is the load's first column, and counting down from it, −1 is the first column again, −2 the second"
abbrev pub numbered : Loaded → ℤ → ℕ
numbered l (pos n) = l.column + n
numbered l (negsuc n) = l.column + n

-- what a rectangle shows at one of its cells: a column and a row of the image, by a load
pub record Look : Type 0 where
  pub load : Loaded
  pub column : ℕ
  pub row : ℕ

-- D "Cell i of a rectangle shows number uls / 32 + i of its load", and D "Its line j shows the load's first row plus j"
abbrev pub look_by : Loaded → (uls : ℤ) → (i j : ℕ) → Look
look_by l uls i j = record { load = l; column = numbered l (floor_div uls 32 +ℤ pos i); row = l.row + j }

-- nothing where no load stands before it
abbrev pub look_at : Option Loaded → (uls : ℤ) → (i j : ℕ) → Option Look
look_at None uls i j = None
look_at (Some l) uls i j = Some (look_by l uls i j)

-- what the rectangles that meet the square of that side at (x, y) show there, in their order; l is the last load before the list
unfoldable pub looks_at : (side x y : ℕ) → (l : Option Loaded) → List Entry → List (Option Look)
looks_at side x y l [] = []
looks_at side x y l (Image fmt siz width address ∷ es) = looks_at side x y l es
looks_at side x y l (Tile i fmt siz line tmem palette cms cmt masks maskt ∷ es) = looks_at side x y l es
looks_at side x y l (Size i uls ult lrs lrt ∷ es) = looks_at side x y l es
looks_at side x y l (Load i uls ult lrs lrt words rows stride start len ∷ es) = looks_at side x y (Some (loaded_by uls ult lrs lrt)) es
looks_at side x y l (Rect i ulx uly lrx lry uls ult dsdx dtdy row ∷ es) =
    cond (meets side ulx uly lrx lry x y) (look_at l uls ((x - ulx) / 4) ((y - uly) / 4) ∷ looks_at side x y l es) (looks_at side x y l es)

-- the texel is one of the load's, whose first column and row are never above it
pub record FromLoad (l : Look) : Type 0 where
  pub column : l.column < l.load.column + l.load.columns
  pub row : l.row < l.load.row + l.load.rows

-- D "where a load is at most 1,024 columns wide": by the look's own load, and in a flipped frame alone
abbrev pub Claimed : Copy → Look → Type 0
Claimed c l = c.flip ≡ true → l.load.columns ≤ 1024
