-- Each line of each rectangle with its plan's numbers, its strip and its distance, and the two limits of demand 3 in numbers; proofs/Limits.antt has them of every plan. D is docs/SPECIFICATION.md, section 11.
-- Assumes nothing.
use Rattle.std.specs.Prelude.{◌≡◌, List, [], ◌∷◌, ℕ, ◌+◌, ◌-◌, ◌/◌, ◌<◌, ℤ, pos, neg_ℤ, ◌+ℤ◌, ◌*ℤ◌, ◌≤ℤ◌}
use Rattle.signed.specs.Floor.{modulo}
use Rattle.plan.specs.declared.types.Entry.{Entry}
use Rattle.plan.specs.declared.types.Entry.TheVariants.{Image, Tile, Size, Load, Rect}
use Rattle.plan.specs.Demand.{Drift, ahead}

-- every line of every rectangle has R of the plan's numbers, its strip's number and its distance
abbrev pub EachLine : ((d : Drift) (k x : ℤ) → Type 0) → Drift → (earlier : ℕ) → List ℤ → List Entry → Type 0
EachLine R d n ks [] = Unit {0}
EachLine R d n ks (Image fmt siz width address ∷ es) = EachLine R d n ks es
EachLine R d n ks (Tile i fmt siz line tmem palette cms cmt masks maskt ∷ es) = EachLine R d n ks es
EachLine R d n ks (Size i uls ult lrs lrt ∷ es) = EachLine R d n ks es
EachLine R d n ks (Load i uls ult lrs lrt words rows stride start len ∷ es) = EachLine R d n ks es
EachLine R d n [] (Rect i ulx uly lrx lry uls ult dsdx dtdy row ∷ es) = ⊥
EachLine R d n (k ∷ ks) (Rect i ulx uly lrx lry uls ult dsdx dtdy row ∷ es) =
    ((j : ℕ) → j < (lry - uly) / 4 → R d k (ahead d k row ult n j)) × EachLine R d (n + (lry - uly) / 4) ks es

-- D "d .. is at least −(h + 30) where image_y_orig is a multiple of 32 and −(h + 1,022) where it is not"; the second is the wider, and so holds of each
abbrev pub Behind : (d : Drift) (k x : ℤ) → Type 0
Behind d k x = (modulo d.origin 32 ≡ 0 → neg_ℤ (pos (d.h + 30)) ≤ℤ x) × (neg_ℤ (pos (d.h + 1022)) ≤ℤ x)

-- D "1,024 × d at most h × (1,024 + k)"
abbrev pub Before : (d : Drift) (k x : ℤ) → Type 0
Before d k x = (pos 1024 *ℤ x) ≤ℤ (pos d.h *ℤ (pos 1024 +ℤ k))
