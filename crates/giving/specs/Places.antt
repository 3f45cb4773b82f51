-- Where the entries stand that last set a tile, and the bank that they leave. D is docs/SPECIFICATION.md, section 5.
-- Assumes nothing.
use Rattle.std.specs.Prelude.{cond, List, ℕ, ◌+◌, ◌≤◌, ◌<◌, eqb, length, get_or}
use Rattle.plan.specs.declared.types.Entry.{Entry}
use Rattle.plan.specs.declared.types.Entry.TheVariants as entry
use Rattle.giving.specs.declared.giving.Places.{Places}
use Rattle.giving.specs.Host.{tile_in, bounds_in}

abbrev pub no_places : Places
no_places = record { tile0 = 0; tile7 = 0; bounds0 = 0; bounds7 = 0 }

abbrev pub tile_placed : Places → (index place : ℕ) → Places
tile_placed p index place = record { tile0 = cond (eqb index 7) p.tile0 place; tile7 = cond (eqb index 7) place p.tile7; bounds0 = p.bounds0; bounds7 = p.bounds7 }

-- an entry's place is one more than that of its first word, so that 0 is none
unfoldable pub placed_of : Places → (at : ℕ) → Entry → Places
placed_of p at (entry.Image fmt siz width address) = p
placed_of p at (entry.Tile i fmt siz line tmem palette cms cmt masks maskt) = tile_placed p i (at + 1)
placed_of p at (entry.Size i uls ult lrs lrt) = record { tile0 = p.tile0; tile7 = p.tile7; bounds0 = at + 1; bounds7 = p.bounds7 }
placed_of p at (entry.Load i uls ult lrs lrt words rows stride start len) = record { tile0 = p.tile0; tile7 = p.tile7; bounds0 = p.bounds0; bounds7 = at + 1 }
placed_of p at (entry.Rect i ulx uly lrx lry uls ult dsdx dtdy row) = p

-- a tile set by the entry at a place of the plan's words, behind its kind and its index
abbrev pub tile_at : (ws : List ℕ) (i : ℕ) (out : List ℕ) (place : ℕ) → List ℕ
tile_at ws i out place =
    tile_in ws i (get_or out (place + 1) 0) (get_or out (place + 2) 0) (get_or out (place + 3) 0) (get_or out (place + 4) 0) (get_or out (place + 5) 0) (get_or out (place + 6) 0) (get_or out (place + 7) 0) (get_or out (place + 8) 0) (get_or out (place + 9) 0)

abbrev pub bounds_at : (ws : List ℕ) (i : ℕ) (out : List ℕ) (place : ℕ) → List ℕ
bounds_at ws i out place = bounds_in ws i (get_or out (place + 1) 0) (get_or out (place + 2) 0) (get_or out (place + 3) 0) (get_or out (place + 4) 0)

abbrev pub tile_settled : (ws : List ℕ) (i : ℕ) (out : List ℕ) (place : ℕ) → List ℕ
tile_settled ws i out place = cond (eqb place 0) ws (tile_at ws i out place)

abbrev pub bounds_settled : (ws : List ℕ) (i : ℕ) (out : List ℕ) (place : ℕ) → List ℕ
bounds_settled ws i out place = cond (eqb place 0) ws (bounds_at ws i out place)

-- D "Setting one keeps its four bounds", "Setting bounds also sets width": the last entry of each kind
unfoldable pub settled_of : (ws out : List ℕ) → Places → List ℕ
settled_of ws out p = bounds_settled (bounds_settled (tile_settled (tile_settled ws 0 out p.tile0) 7 out p.tile7) 0 out p.bounds0) 7 out p.bounds7

-- the bounds at a place have 16 bits
pub record BoundsIn (out : List ℕ) (place : ℕ) : Type 0 where
  pub fits : place + 9 < length out
  pub uls : get_or out (place + 1) 0 ≤ 65535
  pub ult : get_or out (place + 2) 0 ≤ 65535
  pub lrs : get_or out (place + 3) 0 ≤ 65535
  pub lrt : get_or out (place + 4) 0 ≤ 65535

-- the places are those of entries in the plan's words
pub record PlacesIn (out : List ℕ) (p : Places) : Type 0 where
  pub tile0 : 1 ≤ p.tile0 → p.tile0 + 9 < length out
  pub tile7 : 1 ≤ p.tile7 → p.tile7 + 9 < length out
  pub bounds0 : 1 ≤ p.bounds0 → BoundsIn out p.bounds0
  pub bounds7 : 1 ≤ p.bounds7 → BoundsIn out p.bounds7
