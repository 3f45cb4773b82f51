-- The entries that are read back from a buffer's words; proofs/Words.antt has demand 3 of them.
-- Assumes nothing.
use Rattle.std.specs.Prelude.{◌≡◌, cond, List, [], ◌∷◌, ◌++◌, ℕ, zero, suc, ◌-◌, ◌/◌, ◌<◌, eqb, ℤ, drop, get_or}
use Rattle.std.proofs.Common.{to_z}
use Rattle.std.specs.Int.{w64}
use Rattle.signed.specs.Cast.{word}
use Rattle.plan.specs.declared.types.Entry.{Entry}
use Rattle.plan.specs.declared.types.Entry.TheVariants.{Image, Tile, Size, Load, Rect}

-- a signed number, by the 64 bits of its word
abbrev signed_at : List ℕ → ℕ → ℤ
signed_at ws k = to_z w64 (get_or ws k 0)

-- the entry that eleven words are, by their kind; an end's words, or others, are none
abbrev pub entry_from : List ℕ → List Entry
entry_from ws =
    cond (eqb (get_or ws 0 0) 1) (Image (get_or ws 1 0) (get_or ws 2 0) (get_or ws 3 0) (get_or ws 4 0) ∷ [])
    (cond (eqb (get_or ws 0 0) 2)
    (Tile (get_or ws 1 0) (get_or ws 2 0) (get_or ws 3 0) (get_or ws 4 0) (get_or ws 5 0) (get_or ws 6 0) (get_or ws 7 0) (get_or ws 8 0) (get_or ws 9 0) (get_or ws 10 0) ∷ [])
    (cond (eqb (get_or ws 0 0) 3) (Size (get_or ws 1 0) (get_or ws 2 0) (get_or ws 3 0) (get_or ws 4 0) (get_or ws 5 0) ∷ [])
    (cond (eqb (get_or ws 0 0) 4)
    (Load (get_or ws 1 0) (get_or ws 2 0) (get_or ws 3 0) (get_or ws 4 0) (get_or ws 5 0) (get_or ws 6 0) (get_or ws 7 0) (get_or ws 8 0) (get_or ws 9 0) (get_or ws 10 0) ∷ [])
    (cond (eqb (get_or ws 0 0) 5) (Rect (get_or ws 1 0) (get_or ws 2 0) (get_or ws 3 0) (get_or ws 4 0) (get_or ws 5 0) (signed_at ws 6) (signed_at ws 7) (signed_at ws 8) (signed_at ws 9) (get_or ws 10 0) ∷ []) []))))

-- the entries in the first 11 × n words
unfoldable pub entries_from : ℕ → List ℕ → List Entry
entries_from zero ws = []
entries_from (suc n) ws = entry_from ws ++ entries_from n (drop 11 ws)

-- an entry as its words are read: of a rectangle's signed numbers their 64 bits
abbrev pub reread : Entry → Entry
reread (Image fmt siz width address) = Image fmt siz width address
reread (Tile i fmt siz line tmem palette cms cmt masks maskt) = Tile i fmt siz line tmem palette cms cmt masks maskt
reread (Size i uls ult lrs lrt) = Size i uls ult lrs lrt
reread (Load i uls ult lrs lrt words rows stride start len) = Load i uls ult lrs lrt words rows stride start len
reread (Rect i ulx uly lrx lry uls ult dsdx dtdy row) = Rect i ulx uly lrx lry (to_z w64 (word uls)) (to_z w64 (word ult)) (to_z w64 (word dsdx)) (to_z w64 (word dtdy)) row

-- each rectangle's ult is what its word reads as
abbrev pub Short : List Entry → Type 0
Short [] = Unit {0}
Short (Image fmt siz width address ∷ es) = Short es
Short (Tile i fmt siz line tmem palette cms cmt masks maskt ∷ es) = Short es
Short (Size i uls ult lrs lrt ∷ es) = Short es
Short (Load i uls ult lrs lrt words rows stride start len ∷ es) = Short es
Short (Rect i ulx uly lrx lry uls ult dsdx dtdy row ∷ es) = (ult ≡ to_z w64 (word ult)) × Short es

-- each rectangle draws a line, and its ult is what its word reads as
abbrev pub Drawn : List Entry → Type 0
Drawn [] = Unit {0}
Drawn (Image fmt siz width address ∷ es) = Drawn es
Drawn (Tile i fmt siz line tmem palette cms cmt masks maskt ∷ es) = Drawn es
Drawn (Size i uls ult lrs lrt ∷ es) = Drawn es
Drawn (Load i uls ult lrs lrt words rows stride start len ∷ es) = Drawn es
Drawn (Rect i ulx uly lrx lry uls ult dsdx dtdy row ∷ es) = ((0 < (lry - uly) / 4) × (ult ≡ to_z w64 (word ult))) × Drawn es
