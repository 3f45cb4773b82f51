-- Each step of the copy walk keeps its place sound, and lowers the number of entries that can still come.
-- Assumes nothing.
use Rattle.std.specs.Prelude.{◌≡◌, refl, Bool, true, false, ℕ, ◌+◌, ◌-◌, ◌*◌, ◌≤◌, ◌<◌, ltb, Option, Some, None}
use Rattle.std.proofs.Common.{arith, ltb-true, ltb-false}
use Rattle.tile.specs.declared.bank.Bounds.{Bounds}
use Rattle.load_tile.specs.declared.load.LoadRequest.{LoadRequest}
use Rattle.plan.specs.declared.types.Copy.{Copy}
use Rattle.plan.specs.Copy.{strip_row_of, strip_height_of}
use Rattle.plan.specs.Next.{Next}
use Rattle.plan.specs.Next.Next.{give, over}
use Rattle.plan.specs.Sound.{SoundCopy}
use Rattle.copy.specs.declared.types.Due.TheVariants as due
use Rattle.copy.specs.declared.types.Stage.{Stage}
use Rattle.copy.specs.declared.types.Stage.TheVariants as stage
use Rattle.copy.specs.declared.types.Place.{Place}
use Rattle.strips.specs.Strip.{Rows, strip_bounds, height_in}
use Rattle.copy.specs.Walk.{place_at, row_at, start_at, SoundPlace, SoundAt, area_of, request_in, tile7_next, load_next, strip_next, copy_next_of, CopyWalk, as_next}

-- the cells from here on, in rows of 1,024, of which a strip takes at least one for its five entries
abbrev pub cells_left : Place → ℕ
cells_left p = 1024 * (1024 - p.y) - p.x

-- no more entries than this are to come
abbrev pub left_copy : Stage → Place → ℕ
left_copy (stage.Strip due.Image) p = 5 * (1024 * (1024 - p.y)) + 1
left_copy (stage.Strip due.Rect) p = 5 * cells_left p - 4
left_copy stage.Tile7 p = 5 * cells_left p
left_copy stage.Tile0 p = 5 * cells_left p - 1
left_copy stage.Size p = 5 * cells_left p - 2
left_copy stage.Load p = 5 * cells_left p - 3
left_copy stage.Done p = 0

-- what holds of the walk after an entry
pub record KeptAt (left : ℕ) (w : CopyWalk) : Type 0 where
  pub sound : SoundAt w.stage w.place
  pub less : left_copy w.stage w.place < left

abbrev pub Kept : ℕ → Next CopyWalk → Type 0
Kept left (give e w) = KeptAt left w
Kept left (over l v) = Unit {0}

-- ---- where the walk comes to

pub place_sound : (c : Copy) (x y sy h : ℕ) → SoundCopy c → x < c.width → y < c.height → Rows c y sy h → SoundPlace (place_at c x y sy h)
place_sound c x y sy h s k l r = record { copy = s; x = k; y = l; rows = r; strip = strip_bounds c x s k }

pub row_sound : (c : Copy) (y : ℕ) → SoundCopy c → y < c.height → SoundPlace (row_at c y)
row_sound c y s h = place_sound c 0 y (strip_row_of c y) (strip_height_of c y) s s.width h (height_in c y s h)

-- ---- the steps

tile7 : (p : Place) (t : Bool) → SoundPlace p → Kept (left_copy stage.Tile7 p) (as_next (tile7_next t p))
unfolding tile7_next
tile7 p true h = tt
tile7 p false h = let s = h.copy in record { sound = h; less = omega arith }

loaded : (p : Place) (a : Bounds) (q : Option LoadRequest) → SoundPlace p → Kept (left_copy stage.Load p) (as_next (load_next q a p))
unfolding load_next
loaded p a (Some r) h = let s = h.copy in record { sound = h; less = omega arith }
loaded p a None h = tt

right : (p : Place) → SoundPlace p → p.x + p.strip.strip_width < p.copy.width
    → KeptAt (left_copy (stage.Strip due.Rect) p) (record { stage = stage.Tile7; place = place_at p.copy (p.x + p.strip.strip_width) p.y p.sy p.strip_height })
right p h k =
    let s = h.copy in
    let b = h.strip in
    record { sound = place_sound p.copy (p.x + p.strip.strip_width) p.y p.sy p.strip_height s k h.y h.rows; less = omega arith }

below : (p : Place) → SoundPlace p → p.y + p.strip_height < p.copy.height → KeptAt (left_copy (stage.Strip due.Rect) p) (record { stage = stage.Tile7; place = row_at p.copy (p.y + p.strip_height) })
below p h k =
    let s = h.copy in
    let r = h.rows in
    record { sound = row_sound p.copy (p.y + p.strip_height) s k; less = omega arith }

rect : (p : Place) → SoundPlace p → (t u : Bool) → ltb (p.x + p.strip.strip_width) p.copy.width ≡ t → ltb (p.y + p.strip_height) p.copy.height ≡ u
    → Kept (left_copy (stage.Strip due.Rect) p) (as_next (strip_next t u due.Rect p))
unfolding strip_next
rect p h true u d e = right p h (ltb-true _ _ d)
rect p h false true d e = below p h (ltb-true _ _ e)
rect p h false false d e = let s = h.copy in record { sound = h; less = omega arith }

-- before the first row there is none to the right, and one below
image : (c : Copy) → SoundCopy c → (t u : Bool) → ltb (c.width + 0) c.width ≡ t → ltb 0 c.height ≡ u
    → Kept (left_copy (stage.Strip due.Image) (start_at c)) (as_next (strip_next t u due.Image (start_at c)))
unfolding strip_next
image c s true u d e = let k : c.width + 0 < c.width = ltb-true (c.width + 0) c.width d in absurd (omega arith)
image c s false true d e = record { sound = row_sound c 0 s s.height; less = omega arith }
image c s false false d e = let k : c.height ≤ 0 = ltb-false 0 c.height e in absurd (omega arith)

pub copy_kept : (s : Stage) (p : Place) → SoundAt s p → Kept (left_copy s p) (as_next (copy_next_of s p))
unfolding copy_next_of
copy_kept (stage.Strip due.Image) p h = rw h.is (image p.copy h.copy _ _ refl refl)
copy_kept (stage.Strip due.Rect) p h = rect p h _ _ refl refl
copy_kept stage.Tile7 p h = tile7 p _ h
copy_kept stage.Tile0 p h = record { sound = h; less = tile0 p h }
  where
    tile0 : (p : Place) → SoundPlace p → left_copy stage.Size p < left_copy stage.Tile0 p
    tile0 p h = let s = h.copy in omega arith
copy_kept stage.Size p h = record { sound = h; less = size p h }
  where
    size : (p : Place) → SoundPlace p → left_copy stage.Load p < left_copy stage.Size p
    size p h = let s = h.copy in omega arith
copy_kept stage.Load p h = loaded p (area_of p) (request_in p.copy (area_of p)) h
copy_kept stage.Done p h = tt

-- at the start
pub start_sound : (c : Copy) → SoundCopy c → SoundAt (stage.Strip due.Image) (start_at c)
start_sound c s = record { copy = s; is = refl }

pub start_left : (c : Copy) → left_copy (stage.Strip due.Image) (start_at c) ≤ 6000000
start_left c = omega arith
