-- The strips of a copy plan as a list of places: what is claimed of every strip of a plan is proved of the list.
-- Assumes nothing.
use Rattle.std.specs.Prelude.{◌≡◌, true, false, List, [], ◌∷◌, ◌++◌, ℕ, zero, suc, ◌+◌, ◌≤◌, ◌<◌, ltb}
use Rattle.object.specs.declared.types.Verdict.TheVariants as verdict
use Rattle.plan.specs.declared.types.Copy.{Copy}
use Rattle.plan.specs.Out.{Out, ◌>>◌, yield, refuse}
use Rattle.plan.specs.Copy.{strip_of, strip_entries, strip_row_of, strip_height_of}
use Rattle.copy.specs.declared.types.Place.{Place}
use Rattle.copy.specs.Walk.{place_at, too_big}

-- ---- the places

-- the strips of the row at line y, from cell x on
unfoldable pub across : ℕ → Copy → (y sy height x : ℕ) → List Place
across zero c y sy h x = []
across (suc n) c y sy h x = elim (ltb x c.width) [ true ↦ place_at c x y sy h ∷ across n c y sy h (x + (strip_of c x).strip_width) | false ↦ [] ]

-- the rows of strips from line y on
unfoldable pub down : ℕ → Copy → ℕ → List Place
down zero c y = []
down (suc n) c y = elim (ltb y c.height) [ true ↦ across c.width c y (strip_row_of c y) (strip_height_of c y) 0 ++ down n c (y + strip_height_of c y) | false ↦ [] ]

unfoldable pub places_of : Copy → List Place
places_of c = down c.height c 0

-- ---- one walk over them

-- a strip's entries, or its refusal
unfoldable pub strip_out : Place → Out (Unit {0})
strip_out p = elim (too_big p) [ true ↦ refuse verdict.TooBig | false ↦ strip_entries p.copy p.y p.sy p.strip_height p.x p.strip ]

unfoldable pub strips_out : List Place → Out (Unit {0})
strips_out [] = yield tt
strips_out (p ∷ ps) = strip_out p >> strips_out ps

-- ---- claims on places

-- what holds of every place of a list
abbrev pub All : (Place → Type 0) → List Place → Type 0
All P [] = Unit {0}
All P (p ∷ ps) = P p × All P ps

-- in the row at line y, from cell x on
pub record InRow (c : Copy) (y sy h x : ℕ) (p : Place) : Type 0 where
  pub is : p ≡ place_at c p.x y sy h
  pub from : x ≤ p.x
  pub within : p.x < c.width

-- in a row of the frame from line y on
pub record InFrame (c : Copy) (y : ℕ) (p : Place) : Type 0 where
  pub is : p ≡ place_at c p.x p.y (strip_row_of c p.y) (strip_height_of c p.y)
  pub within : p.x < c.width
  pub from : y ≤ p.y
  pub above : p.y < c.height
