-- The strips of a copy plan cover each cell of the frame once, and no other. Along a row, and then row after row: a strip before the cell does not cover it, one strip does, and those after it do not.
-- Assumes nothing.
use Rattle.std.specs.Prelude.{◌≡◌, ◌⊎◌, refl, Bool, true, false, ◌&&◌, List, [], ◌∷◌, ◌++◌, ℕ, zero, suc, ◌+◌, ◌≤◌, ◌<◌, ltb, filter}
use Rattle.std.proofs.Common.{inl, inr, sym, ap, subst, ◌∙◌, arith, append-nil, ltb-true, ltb-false, lt-ltb, le-ltb}
use Rattle.std.proofs.lemmas.Bool.{and_from, and_left, and_right}
use Rattle.std.proofs.lemmas.List.Elements.{filter-append}
use Rattle.plan.specs.declared.types.Copy.{Copy}
use Rattle.plan.specs.Copy.{strip_of, strip_row_of, strip_height_of}
use Rattle.plan.specs.Sound.{SoundCopy}
use Rattle.strips.specs.Strip.{strip_bounds, height_in}
use Rattle.copy.specs.declared.types.Place.{Place}
use Rattle.copy.specs.Walk.{place_at}
use Rattle.cells.specs.Places.{across, down, places_of, All, InRow, InFrame}
use Rattle.cells.proofs.Places.{across_on, down_on, across_in, down_in, places_in}

-- ---- the places that cover a cell, counted from the frame's corner

-- n cells from one on have the one at i among them
abbrev pub among : (from n i : ℕ) → Bool
among from n i = ltb from (i + 1) && ltb i (from + n)

abbrev pub covers : (i j : ℕ) → Place → Bool
covers i j p = among p.x p.strip.strip_width i && among p.y p.strip_height j

-- one place covers it
pub record Alone (ps : List Place) : Type 0 where
  pub place : Place
  pub is : ps ≡ place ∷ []

pub among_on : (from n i : ℕ) → from ≤ i → i < from + n → among from n i ≡ true
among_on from n i h k = and_from (ltb from (i + 1)) (ltb i (from + n)) (lt-ltb from (i + 1) (omega arith)) (lt-ltb i (from + n) k)

among_before : (from n i : ℕ) → i < from → among from n i ≡ false
among_before from n i h = and_left (ltb from (i + 1)) (ltb i (from + n)) (le-ltb from (i + 1) (omega arith))

among_beyond : (from n i : ℕ) → from + n ≤ i → among from n i ≡ false
among_beyond from n i h = and_right (ltb from (i + 1)) (ltb i (from + n)) (le-ltb i (from + n) h)

-- ---- parts of a list that cover nothing

pub none_of : (P : Place → Type 0) (f : Place → Bool) → ((p : Place) → P p → f p ≡ false) → (ps : List Place) → All P ps → filter f ps ≡ []
none_of P f g [] h = refl
none_of P f g (p ∷ ps) h = rw (g p h.0) (none_of P f g ps h.1)

module _ (c : Copy) (s : SoundCopy c) (i j : ℕ) where
  -- from cell x on, none covers a cell before x
  row_right : (n y sy h x : ℕ) → i < x → filter (covers i j) (across n c y sy h x) ≡ []
  row_right n y sy h x k =
      none_of (InRow c y sy h x) (covers i j) (λ p r. let f = r.from in and_left (among p.x p.strip.strip_width i) (among p.y p.strip_height j) (among_before p.x p.strip.strip_width i (omega arith))) (across n c y sy h x) (across_in n c y sy h x)

  -- no strip of a row covers a cell below the row
  row_above : (n y sy h x : ℕ) → y + h ≤ j → filter (covers i j) (across n c y sy h x) ≡ []
  row_above n y sy h x k =
      none_of (InRow c y sy h x) (covers i j) (λ p r. subst (λ (q : Place). covers i j q ≡ false) (sym r.is) (and_right (among p.x (strip_of c p.x).strip_width i) (among y h j) (among_beyond y h j k))) (across n c y sy h x) (across_in n c y sy h x)

  -- from line y on, none covers a cell above y
  rows_below : (n y : ℕ) → j < y → filter (covers i j) (down n c y) ≡ []
  rows_below n y k =
      none_of (InFrame c y) (covers i j) (λ p r. let f = r.from in and_right (among p.x p.strip.strip_width i) (among p.y p.strip_height j) (among_before p.y p.strip_height j (omega arith))) (down n c y) (down_in n c y)

  -- ---- one place

  row_once : (n y sy h x : ℕ) → among y h j ≡ true → x ≤ i → i < c.width → c.width ≤ n + x → Alone (filter (covers i j) (across n c y sy h x))
  row_once zero y sy h x k a b d = absurd (omega arith)
  row_once (suc n) y sy h x k a b d = by (ltb i (x + (strip_of c x).strip_width)) refl (λ e. row_once n y sy h (x + (strip_of c x).strip_width) k e b)
    where
      w : ℕ
      w = (strip_of c x).strip_width

      on : ltb x c.width ≡ true
      on = lt-ltb x c.width (omega arith)

      by : (t : Bool) → ltb i (x + w) ≡ t → (x + w ≤ i → c.width ≤ n + (x + w) → Alone (filter (covers i j) (across n c y sy h (x + w)))) → Alone (filter (covers i j) (across (suc n) c y sy h x))
      by true t r =
          let l : i < x + w = ltb-true i (x + w) t in
          rw (across_on n c y sy h x on, and_from (among x w i) (among y h j) (among_on x w i a l) k, row_right n y sy h (x + w) l) (record { place = place_at c x y sy h; is = refl })
      by false t r =
          let l : x + w ≤ i = ltb-false i (x + w) t in
          let q = (strip_bounds c x s (omega arith)).width in
          rw (across_on n c y sy h x on, and_left (among x w i) (among y h j) (among_beyond x w i l)) (r l (omega arith))

  rows_once : (n y : ℕ) → i < c.width → y ≤ j → j < c.height → c.height ≤ n + y → Alone (filter (covers i j) (down n c y))
  rows_once zero y a b d e = absurd (omega arith)
  rows_once (suc n) y a b d e = by (ltb j (y + strip_height_of c y)) refl (λ g. rows_once n (y + strip_height_of c y) a g d)
    where
      h : ℕ
      h = strip_height_of c y

      row : List Place
      row = across c.width c y (strip_row_of c y) h 0

      split : filter (covers i j) (down (suc n) c y) ≡ filter (covers i j) row ++ filter (covers i j) (down n c (y + h))
      split = ap (filter (covers i j)) (down_on n c y (lt-ltb y c.height (omega arith))) ∙ filter-append (covers i j) row (down n c (y + h))

      by : (t : Bool) → ltb j (y + h) ≡ t → (y + h ≤ j → c.height ≤ n + (y + h) → Alone (filter (covers i j) (down n c (y + h)))) → Alone (filter (covers i j) (down (suc n) c y))
      by true t r =
          let l : j < y + h = ltb-true j (y + h) t in
          let o = row_once c.width y (strip_row_of c y) h 0 (among_on y h j b l) (omega arith) a (omega arith) in
          record { place = o.place; is = split ∙ ap (λ (ps : List Place). filter (covers i j) row ++ ps) (rows_below n (y + h) l) ∙ append-nil (filter (covers i j) row) ∙ o.is }
      by false t r =
          let l : y + h ≤ j = ltb-false j (y + h) t in
          let q = (height_in c y s (omega arith)).height in
          rw (split, row_above c.width y (strip_row_of c y) h 0 l) (r l (omega arith))

  pub covered_once : i < c.width → j < c.height → Alone (filter (covers i j) (places_of c))
  unfolding places_of
  covered_once a b = rows_once c.height 0 a (omega arith) b (omega arith)

  -- ---- and nothing beyond the frame

  pub uncovered : c.width ≤ i ⊎ c.height ≤ j → filter (covers i j) (places_of c) ≡ []
  uncovered a = none_of (InFrame c 0) (covers i j) (λ p r. subst (λ (q : Place). covers i j q ≡ false) (sym r.is) (beyond p r a)) (places_of c) (places_in c)
    where
      beyond : (p : Place) → InFrame c 0 p → c.width ≤ i ⊎ c.height ≤ j → covers i j (place_at c p.x p.y (strip_row_of c p.y) (strip_height_of c p.y)) ≡ false
      beyond p r (inl w) = let b = (strip_bounds c p.x s r.within).width' in and_left (among p.x (strip_of c p.x).strip_width i) (among p.y (strip_height_of c p.y) j) (among_beyond p.x (strip_of c p.x).strip_width i (omega arith))
      beyond p r (inr h) = let b = (height_in c p.y s r.above).height' in and_right (among p.x (strip_of c p.x).strip_width i) (among p.y (strip_height_of c p.y) j) (among_beyond p.y (strip_height_of c p.y) j (omega arith))
