-- The rectangles of a copy plan meet each cell of the clipped frame once, each quarter of it once, and nothing else: a rectangle meets a square where its strip covers the square's cell, and one strip covers it.
-- Assumes nothing.
use Rattle.std.specs.Prelude.{◌≡◌, ◌⊎◌, refl, Bool, true, false, cond, ◌&&◌, ◌||◌, List, [], ◌∷◌, ℕ, ◌+◌, ◌-◌, ◌/◌, ◌≤◌, ◌<◌, ltb, leb, eqb, length, filter}
use Rattle.std.proofs.Common.{inl, inr, sym, ap, ◌∙◌, true≢false, arith, ltb-true, ltb-false, lt-ltb, le-ltb, leb-true, leb-false, le-leb, eqb-true}
use Rattle.std.proofs.lemmas.Bool.{and_left, and_right, lt-leb, ltb_from_iff}
use Rattle.measures.specs.Measure.{quarters, of_texels}
use Rattle.plan.specs.declared.types.Copy.{Copy}
use Rattle.plan.specs.Copy.{copy_empty}
use Rattle.plan.specs.Sound.{SoundCopy}
use Rattle.strips.specs.Strip.{strip_bounds, height_in}
use Rattle.copy.specs.declared.types.Place.{Place}
use Rattle.copy.specs.Walk.{image_entry}
use Rattle.cells.specs.Places.{places_of, All, InFrame}
use Rattle.cells.specs.Given.{entries_of}
use Rattle.cells.specs.Met.{overlaps, meets, met_at, between, inside, EachCellOnce}
use Rattle.cells.proofs.Places.{places_in}
use Rattle.cells.proofs.Cover.{among, covers, none_of, covered_once, uncovered}

-- ---- a strip's rectangle

abbrev pub hits : (side x y : ℕ) → Place → Bool
hits side x y p =
    meets side (quarters p.copy.left + of_texels p.x) (quarters p.copy.top + of_texels p.y) (quarters p.copy.left + of_texels (p.x + p.strip.strip_width - 1)) (quarters p.copy.top + of_texels (p.y + p.strip_height - 1)) x y

met_entries : (side x y : ℕ) (ps : List Place) → met_at side x y (entries_of ps) ≡ length (filter (hits side x y) ps)
unfolding met_at entries_of
met_entries side x y [] = refl
met_entries side x y (p ∷ ps) = by (hits side x y p) refl (met_entries side x y ps)
  where
    by : (t : Bool) → hits side x y p ≡ t → met_at side x y (entries_of ps) ≡ length (filter (hits side x y) ps) → met_at side x y (entries_of (p ∷ ps)) ≡ length (filter (hits side x y) (p ∷ ps))
    by true e r = rw e (omega (arith, r))
    by false e r = rw e (omega (arith, r))

pub same_of : (P : Place → Type 0) (f g : Place → Bool) → ((p : Place) → P p → f p ≡ g p) → (ps : List Place) → All P ps → filter f ps ≡ filter g ps
same_of P f g e [] h = refl
same_of P f g e (p ∷ ps) h = rw (e p h.0, same_of P f g e ps h.1)

-- ---- along one axis: n cells from one on, in a frame that begins at `edge`

same_test : (a b c d : ℕ) → (a < b → c < d) → (c < d → a < b) → ltb a b ≡ ltb c d
same_test a b c d f g = ltb_from_iff (λ e. f (ltb-true a b e), λ h. lt-ltb a b (g h))

and_same : {a b c d : Bool} → a ≡ b → c ≡ d → (a && c) ≡ (b && d)
and_same e f = λ i. e i && f i

module _ (edge from n : ℕ) (some : 1 ≤ n) where
  abbrev Over : (side at : ℕ) → Bool
  Over side at = overlaps side (edge + of_texels from) (edge + of_texels (from + n - 1)) at

  cell_axis : (i : ℕ) → Over 4 (edge + of_texels i) ≡ among from n i
  cell_axis i =
      rw (same_test (edge + of_texels from) (edge + of_texels i + 4) from (i + 1) (λ h. omega arith) (λ h. omega arith))
      (ap (λ (t : Bool). ltb from (i + 1) && t) (same_test _ _ i (from + n) (λ h. omega arith) (λ h. omega arith)))

  unit_axis : (x : ℕ) → edge ≤ x → Over 1 x ≡ among from n ((x - edge) / 4)
  unit_axis x l =
      rw (same_test (edge + of_texels from) (x + 1) from ((x - edge) / 4 + 1) (λ h. omega arith) (λ h. omega arith))
      (ap (λ (t : Bool). ltb from ((x - edge) / 4 + 1) && t) (same_test _ _ ((x - edge) / 4) (from + n) (λ h. omega arith) (λ h. omega arith)))

  unit_before : (x : ℕ) → x < edge → Over 1 x ≡ false
  unit_before x l = and_left _ _ (le-ltb (edge + of_texels from) (x + 1) (omega arith))

-- the quarters of the frame along that axis
module _ (edge n x : ℕ) where
  between_on : edge ≤ x → between edge n x ≡ ltb ((x - edge) / 4) n
  between_on l = rw (le-leb edge x l) (same_test _ _ ((x - edge) / 4) n (λ h. omega arith) (λ h. omega arith))

  between_before : x < edge → between edge n x ≡ false
  between_before l = and_left _ _ (lt-leb edge x l)

  between_none : n ≡ 0 → between edge n x ≡ false
  between_none e = by (leb edge x) refl
    where
      by : (t : Bool) → leb edge x ≡ t → between edge n x ≡ false
      by true f = let l = leb-true edge x f in and_right _ _ (le-ltb x (edge + of_texels n) (omega arith))
      by false f = and_left _ _ f

-- ---- the strips of a frame

module _ (c : Copy) (s : SoundCopy c) where
  place_wide : (p : Place) → InFrame c 0 p → 1 ≤ p.strip.strip_width
  place_wide p r = rw (ap (λ (q : Place). q.strip.strip_width) r.is) (strip_bounds c p.x s r.within).width

  place_high : (p : Place) → InFrame c 0 p → 1 ≤ p.strip_height
  place_high p r = rw (ap (λ (q : Place). q.strip_height) r.is) (height_in c p.y s r.above).height

  place_copy : (p : Place) → InFrame c 0 p → p.copy ≡ c
  place_copy p r = ap (λ (q : Place). q.copy) r.is

  covering : (i j : ℕ) → length (filter (covers i j) (places_of c)) ≡ cond (ltb i c.width && ltb j c.height) 1 0
  covering i j = by (ltb i c.width) (ltb j c.height) refl refl
    where
      by : (t u : Bool) → ltb i c.width ≡ t → ltb j c.height ≡ u → length (filter (covers i j) (places_of c)) ≡ cond (t && u) 1 0
      by true true e f = ap length (covered_once c s i j (ltb-true i c.width e) (ltb-true j c.height f)).is
      by true false e f = ap length (uncovered c s i j (inr (ltb-false j c.height f)))
      by false u e f = ap length (uncovered c s i j (inl (ltb-false i c.width e)))

  pub hits_cell : (i j : ℕ) (p : Place) → InFrame c 0 p → hits 4 (quarters c.left + of_texels i) (quarters c.top + of_texels j) p ≡ covers i j p
  hits_cell i j p r = rw (place_copy p r) (and_same (cell_axis (quarters c.left) p.x p.strip.strip_width (place_wide p r) i) (cell_axis (quarters c.top) p.y p.strip_height (place_high p r) j))

  cells_met : (i j : ℕ) → i < c.width → j < c.height → met_at 4 (quarters c.left + of_texels i) (quarters c.top + of_texels j) (entries_of (places_of c)) ≡ 1
  cells_met i j a b =
      let x = quarters c.left + of_texels i in
      let y = quarters c.top + of_texels j in
      met_entries 4 x y (places_of c)
      ∙ ap length (same_of (InFrame c 0) (hits 4 x y) (covers i j) (hits_cell i j) (places_of c) (places_in c))
      ∙ covering i j
      ∙ rw (lt-ltb i c.width a, lt-ltb j c.height b)

  units_met : (x y : ℕ) → met_at 1 x y (entries_of (places_of c)) ≡ cond (inside (quarters c.left) (quarters c.top) c.width c.height x y) 1 0
  units_met x y = by (leb (quarters c.left) x) (leb (quarters c.top) y) refl refl
    where
      l : ℕ
      l = quarters c.left

      t : ℕ
      t = quarters c.top

      nowhere : ((p : Place) → InFrame c 0 p → hits 1 x y p ≡ false) → inside l t c.width c.height x y ≡ false → met_at 1 x y (entries_of (places_of c)) ≡ cond (inside l t c.width c.height x y) 1 0
      nowhere f e = rw e (met_entries 1 x y (places_of c) ∙ ap length (none_of (InFrame c 0) (hits 1 x y) f (places_of c) (places_in c)))

      by : (a b : Bool) → leb l x ≡ a → leb t y ≡ b → met_at 1 x y (entries_of (places_of c)) ≡ cond (inside l t c.width c.height x y) 1 0
      by false b e f =
          let a = leb-false l x e in
          nowhere (λ p r. rw (place_copy p r) (and_left _ _ (unit_before l p.x p.strip.strip_width (place_wide p r) x a))) (and_left _ _ (between_before l c.width x a))
      by true false e f =
          let b = leb-false t y f in
          nowhere (λ p r. rw (place_copy p r) (and_right _ _ (unit_before t p.y p.strip_height (place_high p r) y b))) (and_right _ _ (between_before t c.height y b))
      by true true e f =
          let a = leb-true l x e in
          let b = leb-true t y f in
          met_entries 1 x y (places_of c)
          ∙ ap length
          (same_of (InFrame c 0) (hits 1 x y) (covers ((x - l) / 4) ((y - t) / 4))
          (λ p r. rw (place_copy p r) (and_same (unit_axis l p.x p.strip.strip_width (place_wide p r) x a) (unit_axis t p.y p.strip_height (place_high p r) y b))) (places_of c) (places_in c))
          ∙ covering ((x - l) / 4) ((y - t) / 4)
          ∙ rw (between_on l c.width x a, between_on t c.height y b) refl

  -- of the plan's entries: the image, and the strips'
  pub once : EachCellOnce (quarters c.left) (quarters c.top) c.width c.height (image_entry c ∷ entries_of (places_of c))
  unfolding met_at
  once = record { cells = λ i j a b. omega (arith, cells_met i j a b); units = λ x y. units_met x y }

-- ---- an empty frame has neither

pub empty_axis : (c : Copy) → copy_empty c ≡ true → c.width ≡ 0 ⊎ c.height ≡ 0
empty_axis c e = by (eqb c.width 0) (eqb c.height 0) refl refl e
  where
    by : (t u : Bool) → eqb c.width 0 ≡ t → eqb c.height 0 ≡ u → (t || u) ≡ true → c.width ≡ 0 ⊎ c.height ≡ 0
    by true u f g h = inl (eqb-true c.width 0 f)
    by false true f g h = inr (eqb-true c.height 0 g)
    by false false f g h = absurd (true≢false (sym h))

pub empty_once : (c : Copy) → copy_empty c ≡ true → EachCellOnce (quarters c.left) (quarters c.top) c.width c.height []
unfolding met_at
empty_once c e = by (empty_axis c e)
  where
    none : (x y : ℕ) → inside (quarters c.left) (quarters c.top) c.width c.height x y ≡ false → ◌≡◌ {A = ℕ} 0 (cond (inside (quarters c.left) (quarters c.top) c.width c.height x y) 1 0)
    none x y f = sym (ap (λ (t : Bool). cond t 1 0) f)

    by : c.width ≡ 0 ⊎ c.height ≡ 0 → EachCellOnce (quarters c.left) (quarters c.top) c.width c.height []
    by (inl z) = record { cells = λ i j a b. absurd (omega arith); units = λ x y. none x y (and_left _ _ (between_none (quarters c.left) c.width x z)) }
    by (inr z) = record { cells = λ i j a b. absurd (omega arith); units = λ x y. none x y (and_right _ _ (between_none (quarters c.top) c.height y z)) }
