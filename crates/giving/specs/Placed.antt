-- Where the last entry of each kind stands in a plan's words; proofs/Placed.antt has the laws.
-- Assumes nothing.
use Rattle.std.specs.Prelude.{◌≡◌, ℕ, ◌+◌, ◌*◌, ◌/◌, ltb, length}
use mathlib.Core.List.{List, ◌∷◌, ◌++◌}
use Rattle.plan.specs.declared.types.Entry.{Entry}
use Rattle.plan.specs.declared.types.Entry.TheVariants as entry
use Rattle.plan.specs.Sound.{Narrow}
use Rattle.giving.specs.declared.giving.Places.{Places}
use Rattle.giving.specs.Host.{words_step, words_after}
use Rattle.giving.specs.Over.{set_to}

-- ---- what entries set, apart and over each other

-- an entry sets n words of tile i, from its word k on, whatever stands there
pub record Sets (i k n : ℕ) (e : Entry) : Type 0 where
  pub xs : List ℕ
  pub long : length xs ≡ n
  pub sets : (ws : List ℕ) → words_step ws e ≡ set_to (ltb i (length ws / 17)) ws (i * 17 + k) xs

-- a tile's entry, or its bounds
abbrev pub Describes : ℕ → Entry → Type 0
Describes i (entry.Image fmt siz width address) = ⊥
Describes i (entry.Tile j fmt siz line tmem palette cms cmt masks maskt) = j ≡ i
Describes i (entry.Size j uls ult lrs lrt) = ⊥
Describes i (entry.Load j uls ult lrs lrt words rows stride start len) = ⊥
Describes i (entry.Rect j ulx uly lrx lry uls ult dsdx dtdy row) = ⊥

abbrev pub Bounds : ℕ → Entry → Type 0
Bounds i (entry.Image fmt siz width address) = ⊥
Bounds i (entry.Tile j fmt siz line tmem palette cms cmt masks maskt) = ⊥
Bounds i (entry.Size j uls ult lrs lrt) = (j ≡ i) × Narrow (entry.Size j uls ult lrs lrt)
Bounds i (entry.Load j uls ult lrs lrt words rows stride start len) = (j ≡ i) × Narrow (entry.Load j uls ult lrs lrt words rows stride start len)
Bounds i (entry.Rect j ulx uly lrx lry uls ult dsdx dtdy row) = ⊥

-- ---- the last entry of a kind

pub data Last : Type 0 where
  none : Last
  one : Entry → Last

-- what it leaves
unfoldable pub leave : List ℕ → Last → List ℕ
leave ws none = ws
leave ws (one e) = words_step ws e

-- where it stands among the entries given; its place is one more than that of its first word
pub record Stands (given : List Entry) (place : ℕ) (e : Entry) : Type 0 where
  pub before : List Entry
  pub after : List Entry
  pub is : given ≡ before ++ e ∷ after
  pub at : place ≡ 11 * length before + 1

abbrev pub LastIs : (given : List Entry) → (place : ℕ) → (Entry → Type 0) → Last → Type 0
LastIs given place Is none = place ≡ 0
LastIs given place Is (one e) = Stands given place e × Is e

-- ---- the places of all four kinds

abbrev pub leave_all : (ws : List ℕ) → (t0 t7 b0 b7 : Last) → List ℕ
leave_all ws t0 t7 b0 b7 = leave (leave (leave (leave ws t0) t7) b0) b7

-- the entries at the places leave what all that are given leave
pub record Placed (given : List Entry) (p : Places) : Type 0 where
  pub t0 : Last
  pub t7 : Last
  pub b0 : Last
  pub b7 : Last
  pub tile0 : LastIs given p.tile0 (Describes 0) t0
  pub tile7 : LastIs given p.tile7 (Describes 7) t7
  pub bounds0 : LastIs given p.bounds0 (Bounds 0) b0
  pub bounds7 : LastIs given p.bounds7 (Bounds 7) b7
  pub bank : (ws : List ℕ) → words_after ws given ≡ leave_all ws t0 t7 b0 b7
