-- Each loop of a copy plan is one walk over its part of the list, by one round after another; and each place of the list lies in the frame.
-- Assumes nothing.
use Rattle.std.specs.Prelude.{◌≡◌, refl, Bool, true, false, List, [], ◌∷◌, ◌++◌, ℕ, zero, suc, ◌+◌, ◌<◌, ltb}
use Rattle.std.proofs.Common.{sym, ap, ◌∙◌, arith, append-nil, ltb-true}
use Rattle.plan.specs.declared.types.Copy.{Copy}
use Rattle.plan.specs.declared.types.Entry.{Entry}
use Rattle.plan.specs.Out.{Out, more, ◌>>=◌, ◌>>◌, yield, emit}
use Rattle.plan.specs.Out.Out.{go, stop}
use Rattle.plan.specs.Copy.{strip_of, strip_entries, strip, columns, strip_row_of, strip_height_of, rows, copy_plan}
use Rattle.plan.specs.Laws.{more_nil, bind_assoc, columns_on, columns_end, rows_on, rows_end}
use Rattle.copy.specs.declared.types.Place.{Place}
use Rattle.copy.specs.Walk.{place_at, image_entry, too_big}
use Rattle.cells.specs.Places.{across, down, places_of, strip_out, strips_out, All, InRow, InFrame}

-- ---- one round of each list

pub across_on : (n : ℕ) (c : Copy) (y sy h x : ℕ) → ltb x c.width ≡ true → across (suc n) c y sy h x ≡ place_at c x y sy h ∷ across n c y sy h (x + (strip_of c x).strip_width)
unfolding across
across_on n c y sy h x t = rw (t, across)

across_end : (n : ℕ) (c : Copy) (y sy h x : ℕ) → ltb x c.width ≡ false → across n c y sy h x ≡ []
unfolding across
across_end zero c y sy h x t = refl
across_end (suc n) c y sy h x t = rw (t, across)

pub down_on : (n : ℕ) (c : Copy) (y : ℕ) → ltb y c.height ≡ true → down (suc n) c y ≡ across c.width c y (strip_row_of c y) (strip_height_of c y) 0 ++ down n c (y + strip_height_of c y)
unfolding down
down_on n c y t = rw (t, down)

down_end : (n : ℕ) (c : Copy) (y : ℕ) → ltb y c.height ≡ false → down n c y ≡ []
unfolding down
down_end zero c y t = refl
down_end (suc n) c y t = rw (t, down)

-- ---- the plan is one walk over the list

-- a value that is yielded and taken at once
yielded : (a : Out (Unit {0})) (v : ℕ) (k : ℕ → Out (Unit {0})) → ((a >> yield v) >>= k) ≡ (a >> k v)
yielded (go es u) v k = ap (λ (l : List Entry). more l (k v)) (append-nil es)
yielded (stop es l w) v k = refl

strip_then : (c : Copy) (y sy h x : ℕ) (k : ℕ → Out (Unit {0})) → (strip c y sy h x (strip_of c x) >>= k) ≡ (strip_out (place_at c x y sy h) >> k (x + (strip_of c x).strip_width))
unfolding strip strip_out
strip_then c y sy h x k = by (too_big (place_at c x y sy h)) refl
  where
    by : (t : Bool) → too_big (place_at c x y sy h) ≡ t → (strip c y sy h x (strip_of c x) >>= k) ≡ (strip_out (place_at c x y sy h) >> k (x + (strip_of c x).strip_width))
    by true t = rw (t, strip, strip_out)
    by false t = rw (t, strip, strip_out) (yielded (strip_entries c y sy h x (strip_of c x)) (x + (strip_of c x).strip_width) k)

columns_listed : (n : ℕ) (c : Copy) (y sy h x : ℕ) → columns n c y sy h x ≡ strips_out (across n c y sy h x)
unfolding columns across strips_out
columns_listed zero c y sy h x = refl
columns_listed (suc n) c y sy h x = by (ltb x c.width) refl (columns_listed n c y sy h (x + (strip_of c x).strip_width))
  where
    by : (t : Bool) → ltb x c.width ≡ t → columns n c y sy h (x + (strip_of c x).strip_width) ≡ strips_out (across n c y sy h (x + (strip_of c x).strip_width)) → columns (suc n) c y sy h x ≡ strips_out (across (suc n) c y sy h x)
    by true t r =
        columns_on n c y sy h x t
        ∙ strip_then c y sy h x (λ next. columns n c y sy h next)
        ∙ ap (λ (o : Out (Unit {0})). strip_out (place_at c x y sy h) >> o) r
        ∙ ap strips_out (sym (across_on n c y sy h x t))
    by false t r = columns_end (suc n) c y sy h x t ∙ ap strips_out (sym (across_end (suc n) c y sy h x t))

strips_append : (ps qs : List Place) → strips_out (ps ++ qs) ≡ (strips_out ps >> strips_out qs)
unfolding strips_out
strips_append [] qs = sym (more_nil (strips_out qs))
strips_append (p ∷ ps) qs = ap (λ (o : Out (Unit {0})). strip_out p >> o) (strips_append ps qs) ∙ sym (bind_assoc (strip_out p) (λ _. strips_out ps) (λ _. strips_out qs))

rows_listed : (n : ℕ) (c : Copy) (y : ℕ) → rows n c y ≡ strips_out (down n c y)
unfolding rows down strips_out
rows_listed zero c y = refl
rows_listed (suc n) c y = by (ltb y c.height) refl (rows_listed n c (y + strip_height_of c y))
  where
    by : (t : Bool) → ltb y c.height ≡ t → rows n c (y + strip_height_of c y) ≡ strips_out (down n c (y + strip_height_of c y)) → rows (suc n) c y ≡ strips_out (down (suc n) c y)
    by true t r =
        let row = across c.width c y (strip_row_of c y) (strip_height_of c y) 0 in
        let rest = down n c (y + strip_height_of c y) in
        rows_on n c y t
        ∙ ap (λ (o : Out (Unit {0})). o >> rows n c (y + strip_height_of c y)) (columns_listed c.width c y (strip_row_of c y) (strip_height_of c y) 0)
        ∙ ap (λ (o : Out (Unit {0})). strips_out row >> o) r
        ∙ sym (strips_append row rest)
        ∙ ap strips_out (sym (down_on n c y t))
    by false t r = rows_end (suc n) c y t ∙ ap strips_out (sym (down_end (suc n) c y t))

-- the plan is the image entry, and then the strips of the list
pub plan_listed : (c : Copy) → copy_plan c ≡ (emit (image_entry c) >> strips_out (places_of c))
unfolding copy_plan places_of
plan_listed c = ap (λ (o : Out (Unit {0})). emit (image_entry c) >> o) (rows_listed c.height c 0)

-- ---- claims on every place

pub all_map : (P Q : Place → Type 0) (ps : List Place) → ((p : Place) → P p → Q p) → All P ps → All Q ps
all_map P Q [] f h = tt
all_map P Q (p ∷ ps) f h = (f p h.0, all_map P Q ps f h.1)

all_append : (P : Place → Type 0) (ps qs : List Place) → All P ps → All P qs → All P (ps ++ qs)
all_append P [] qs h k = k
all_append P (p ∷ ps) qs h k = (h.0, all_append P ps qs h.1 k)

-- ---- where the places of the list lie

further : (c : Copy) (y sy h x w : ℕ) (p : Place) → InRow c y sy h (x + w) p → InRow c y sy h x p
further c y sy h x w p r = let f = r.from in record { is = r.is; from = omega arith; within = r.within }

pub across_in : (n : ℕ) (c : Copy) (y sy h x : ℕ) → All (InRow c y sy h x) (across n c y sy h x)
unfolding across
across_in zero c y sy h x = tt
across_in (suc n) c y sy h x = by (ltb x c.width) refl (across_in n c y sy h (x + (strip_of c x).strip_width))
  where
    by : (t : Bool) → ltb x c.width ≡ t → All (InRow c y sy h (x + (strip_of c x).strip_width)) (across n c y sy h (x + (strip_of c x).strip_width)) → All (InRow c y sy h x) (across (suc n) c y sy h x)
    by true t r =
        let w = (strip_of c x).strip_width in
        rw (across_on n c y sy h x t) (record { is = refl; from = omega arith; within = ltb-true x c.width t }, all_map _ _ (across n c y sy h (x + w)) (further c y sy h x w) r)
    by false t r = rw (across_end (suc n) c y sy h x t) tt

rowed : (c : Copy) (y : ℕ) → y < c.height → (p : Place) → InRow c y (strip_row_of c y) (strip_height_of c y) 0 p → InFrame c y p
rowed c y k p r =
    let line : p.y ≡ y = ap (λ (q : Place). q.y) r.is in
    record { is = r.is ∙ ap (λ (m : ℕ). place_at c p.x m (strip_row_of c m) (strip_height_of c m)) (sym line); within = r.within; from = omega arith; above = omega arith }

lower : (c : Copy) (y h : ℕ) (p : Place) → InFrame c (y + h) p → InFrame c y p
lower c y h p r = let f = r.from in record { is = r.is; within = r.within; from = omega arith; above = r.above }

pub down_in : (n : ℕ) (c : Copy) (y : ℕ) → All (InFrame c y) (down n c y)
unfolding down
down_in zero c y = tt
down_in (suc n) c y = by (ltb y c.height) refl (down_in n c (y + strip_height_of c y))
  where
    by : (t : Bool) → ltb y c.height ≡ t → All (InFrame c (y + strip_height_of c y)) (down n c (y + strip_height_of c y)) → All (InFrame c y) (down (suc n) c y)
    by true t r =
        let h = strip_height_of c y in
        let row = across c.width c y (strip_row_of c y) h 0 in
        rw (down_on n c y t)
        (all_append (InFrame c y) row (down n c (y + h)) (all_map _ _ row (rowed c y (ltb-true y c.height t)) (across_in c.width c y (strip_row_of c y) h 0)) (all_map _ _ (down n c (y + h)) (lower c y h) r))
    by false t r = rw (down_end (suc n) c y t) tt

pub places_in : (c : Copy) → All (InFrame c 0) (places_of c)
unfolding places_of
places_in c = down_in c.height c 0
