-- What a copy plan shows at a cell of its frame: by the one strip that covers the cell, as a rectangle meets a cell where its strip covers it, and the load before it is its own.
-- Assumes nothing.
use Rattle.std.specs.Prelude.{◌≡◌, ◌⊎◌, refl, Bool, true, false, Option, Some, None, List, [], ◌∷◌, map, ℕ, ◌+◌, ◌-◌, ◌/◌, ◌≤◌, ◌<◌, filter}
use Rattle.std.proofs.Common.{ap, subst, ◌∙◌, arith, ltb-true}
use Rattle.std.proofs.lemmas.Bool.{and_parts}
use Rattle.measures.specs.Measure.{quarters, of_texels}
use Rattle.plan.specs.declared.types.Copy.{Copy}
use Rattle.plan.specs.Copy.{strip_of, strip_row_of, strip_height_of}
use Rattle.plan.specs.Sound.{SoundCopy}
use Rattle.copy.specs.declared.types.Place.{Place}
use Rattle.copy.specs.Walk.{place_at, image_entry, area_of, first_texel}
use Rattle.cells.specs.Places.{places_of, All, InFrame}
use Rattle.cells.specs.Given.{entries_of}
use Rattle.cells.specs.Shown.{Loaded, loaded_by, Look, look_by, looks_at}
use Rattle.cells.proofs.Places.{places_in}
use Rattle.cells.proofs.Cover.{covers, covered_once, uncovered}
use Rattle.cells.proofs.Once.{hits, hits_cell, same_of}

-- ---- a strip's load and rectangle

abbrev pub loaded_of : Place → Loaded
loaded_of p = loaded_by (area_of p).uls (area_of p).ult (area_of p).lrs (area_of p).lrt

-- at cell (i, j) of it
abbrev pub look_of : Place → (i j : ℕ) → Look
look_of p i j = look_by (loaded_of p) (first_texel p.copy.flip p.strip.load_width p.strip.offset) i j

-- at (x, y) of the screen
abbrev look_from : (x y : ℕ) → Place → Option Look
look_from x y p = Some (look_of p ((x - (quarters p.copy.left + of_texels p.x)) / 4) ((y - (quarters p.copy.top + of_texels p.y)) / 4))

shown_entries : (side x y : ℕ) (l : Option Loaded) (ps : List Place) → looks_at side x y l (entries_of ps) ≡ map (look_from x y) (filter (hits side x y) ps)
unfolding looks_at entries_of
shown_entries side x y l [] = refl
shown_entries side x y l (p ∷ ps) = by (hits side x y p) refl (shown_entries side x y (Some (loaded_of p)) ps)
  where
    by : (t : Bool) → hits side x y p ≡ t → looks_at side x y (Some (loaded_of p)) (entries_of ps) ≡ map (look_from x y) (filter (hits side x y) ps)
        → looks_at side x y l (entries_of (p ∷ ps)) ≡ map (look_from x y) (filter (hits side x y) (p ∷ ps))
    by true e r = rw e (ap (λ (ls : List (Option Look)). look_from x y p ∷ ls) r)
    by false e r = rw e r

-- ---- what holds of the places that are left

kept_all : (P : Place → Type 0) (f : Place → Bool) (ps : List Place) → All P ps → All (λ p. P p × (f p ≡ true)) (filter f ps)
kept_all P f [] h = tt
kept_all P f (p ∷ ps) h = by (f p) refl (kept_all P f ps h.1)
  where
    by : (t : Bool) → f p ≡ t → All (λ p. P p × (f p ≡ true)) (filter f ps) → All (λ p. P p × (f p ≡ true)) (filter f (p ∷ ps))
    by true e r = rw e ((h.0, e), r)
    by false e r = rw e r

-- ---- at a cell

-- the strip that covers the cell, and what it shows there
pub record ShownBy (c : Copy) (i j : ℕ) : Type 0 where
  pub x : ℕ
  pub y : ℕ
  pub within : x < c.width
  pub above : y < c.height
  pub left : x ≤ i
  pub right : i < x + (strip_of c x).strip_width
  pub top : y ≤ j
  pub bottom : j < y + strip_height_of c y
  pub is : looks_at 4 (quarters c.left + of_texels i) (quarters c.top + of_texels j) None (image_entry c ∷ entries_of (places_of c))
      ≡ Some (look_of (place_at c x y (strip_row_of c y) (strip_height_of c y)) (i - x) (j - y)) ∷ []

module _ (c : Copy) (s : SoundCopy c) (i j : ℕ) where
  -- as the strips that cover the cell have it
  shown_covers : looks_at 4 (quarters c.left + of_texels i) (quarters c.top + of_texels j) None (image_entry c ∷ entries_of (places_of c))
      ≡ map (look_from (quarters c.left + of_texels i) (quarters c.top + of_texels j)) (filter (covers i j) (places_of c))
  unfolding looks_at
  shown_covers =
      let x = quarters c.left + of_texels i in
      let y = quarters c.top + of_texels j in
      shown_entries 4 x y None (places_of c) ∙ ap (map (look_from x y)) (same_of (InFrame c 0) (hits 4 x y) (covers i j) (hits_cell c s i j) (places_of c) (places_in c))

  from_strip : (p : Place) → p ≡ place_at c p.x p.y (strip_row_of c p.y) (strip_height_of c p.y)
      → look_from (quarters c.left + of_texels i) (quarters c.top + of_texels j) p ≡ Some (look_of (place_at c p.x p.y (strip_row_of c p.y) (strip_height_of c p.y)) (i - p.x) (j - p.y))
  from_strip p e =
      let k : (quarters c.left + of_texels i - (quarters c.left + of_texels p.x)) / 4 ≡ i - p.x = omega arith in
      let l : (quarters c.top + of_texels j - (quarters c.top + of_texels p.y)) / 4 ≡ j - p.y = omega arith in
      ap (look_from (quarters c.left + of_texels i) (quarters c.top + of_texels j)) e
      ∙ (λ n. Some (look_of (place_at c p.x p.y (strip_row_of c p.y) (strip_height_of c p.y)) (k n) (l n)))

  pub shown_by : i < c.width → j < c.height → ShownBy c i j
  shown_by a b =
      let one = covered_once c s i j a b in
      let p = one.place in
      let known = subst (All (λ p. InFrame c 0 p × (covers i j p ≡ true))) one.is (kept_all (InFrame c 0) (covers i j) (places_of c) (places_in c)) in
      let r = known.0.0 in
      let f = subst (λ (q : Place). covers i j q ≡ true) r.is known.0.1 in
      let g = and_parts _ _ f in
      let across = and_parts _ _ g.0 in
      let down = and_parts _ _ g.1 in
      record {
        x = p.x;
        y = p.y;
        within = r.within;
        above = r.above;
        left = (let l : p.x < i + 1 = ltb-true p.x (i + 1) across.0 in omega arith);
        right = ltb-true _ _ across.1;
        top = (let l : p.y < j + 1 = ltb-true p.y (j + 1) down.0 in omega arith);
        bottom = ltb-true _ _ down.1;
        is = shown_covers ∙ ap (map (look_from (quarters c.left + of_texels i) (quarters c.top + of_texels j))) one.is ∙ ap (λ (l : Option Look). l ∷ []) (from_strip p r.is);
      }

  -- and nothing beyond the frame
  pub shown_beyond : c.width ≤ i ⊎ c.height ≤ j → looks_at 4 (quarters c.left + of_texels i) (quarters c.top + of_texels j) None (image_entry c ∷ entries_of (places_of c)) ≡ []
  shown_beyond a = shown_covers ∙ ap (map (look_from (quarters c.left + of_texels i) (quarters c.top + of_texels j))) (uncovered c s i j a)
