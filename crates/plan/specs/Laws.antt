-- Laws of plans as they are made, one round of each walk, that more fuel changes nothing, and what is left after n entries.
-- Assumes nothing.
use Rattle.std.specs.Prelude.{◌≡◌, refl, Bool, true, false, cond, List, [], ◌∷◌, ◌++◌, ℕ, zero, suc, ◌+◌, ◌-◌, ◌*◌, ◌/◌, ◌%◌, ◌≤◌, ◌<◌, min, ltb, eqb, length, drop, ℤ, pos, negsuc, ◌+ℤ◌, ◌-ℤ◌}
use Rattle.std.proofs.Common.{sym, ap, ◌∙◌, append_assoc, arith, mod-lt, ltb-true, ltb-false, le-ltb, eqb-true}
use Rattle.std.proofs.lemmas.List.{drop-append-le}
use Rattle.std.specs.Int.Signed.{lt_z}
use Rattle.signed.specs.Floor.{floor_div, modulo, modulo_lt}
use Rattle.signed.specs.Diff.{up, zdiff, zparts, zarith}
use Rattle.plan.specs.declared.types.Entry.{Entry}
use Rattle.plan.specs.Out.{Out, more, ◌>>=◌, ◌>>◌, yield}
use Rattle.plan.specs.Out.Out.{go, stop}
use Rattle.plan.specs.declared.types.Copy.{Copy}
use Rattle.plan.specs.declared.types.Strip.{Strip}
use Rattle.plan.specs.Copy.{strip, strip_of, strip_entries, column, columns, rows, strip_row_of, strip_height_of}
use Rattle.plan.specs.declared.types.Scaled.{Scaled}
use Rattle.plan.specs.declared.types.Walk.{Walk}
use Rattle.plan.specs.declared.types.Source.{Source}
use Rattle.plan.specs.Scaled.{draw_of, next_pass, advance, load_1cyc, idle_pass, draw_pass, pass, passes}

pub more_nil : {A : Type 0} (a : Out A) → more [] a ≡ a
more_nil (go es a) = refl
more_nil (stop es l v) = refl

pub more_more : {A : Type 0} (es fs : List Entry) (a : Out A) → more es (more fs a) ≡ more (es ++ fs) a
more_more es fs (go gs a) = ap (λ (l : List Entry). go l a) (sym (append_assoc es fs gs))
more_more es fs (stop gs l v) = ap (λ (m : List Entry). stop m l v) (sym (append_assoc es fs gs))

pub more_bind : {A B : Type 0} (es : List Entry) (a : Out A) (k : A → Out B) → (more es a >>= k) ≡ more es (a >>= k)
more_bind es (go fs a) k = sym (more_more es fs (k a))
more_bind es (stop fs l v) k = refl

pub bind_assoc : {A B C : Type 0} (a : Out A) (f : A → Out B) (g : B → Out C) → ((a >>= f) >>= g) ≡ (a >>= (λ x. f x >>= g))
bind_assoc (go es a) f g = more_bind es (f a) g
bind_assoc (stop es l v) f g = refl

-- one round of each walk, where the test says to go on and where it says to end
pub columns_on : (n : ℕ) (c : Copy) (y sy h x : ℕ) → ltb x c.width ≡ true → columns (suc n) c y sy h x ≡ (strip c y sy h x (strip_of c x) >>= (λ next. columns n c y sy h next))
unfolding columns
columns_on n c y sy h x t = rw (t, columns)

pub columns_end : (n : ℕ) (c : Copy) (y sy h x : ℕ) → ltb x c.width ≡ false → columns n c y sy h x ≡ yield tt
unfolding columns
columns_end zero c y sy h x t = refl
columns_end (suc n) c y sy h x t = rw (t, columns)

pub rows_on : (n : ℕ) (c : Copy) (y : ℕ) → ltb y c.height ≡ true → rows (suc n) c y ≡ (columns c.width c y (strip_row_of c y) (strip_height_of c y) 0 >>= (λ _. rows n c (y + strip_height_of c y)))
unfolding rows
rows_on n c y t = rw (t, rows)

pub rows_end : (n : ℕ) (c : Copy) (y : ℕ) → ltb y c.height ≡ false → rows n c y ≡ yield tt
unfolding rows
rows_end zero c y t = refl
rows_end (suc n) c y t = rw (t, rows)

pub passes_on : (n : ℕ) (z : Scaled) (w : Walk) → lt_z (pos 0) w.frame_remain ≡ true → passes (suc n) z w ≡ (pass z w >>= (λ next. passes n z next))
unfolding passes
passes_on n z w t = rw (t, passes)

pub passes_end : (n : ℕ) (z : Scaled) (w : Walk) → lt_z (pos 0) w.frame_remain ≡ false → passes n z w ≡ yield tt
unfolding passes
passes_end zero z w t = refl
passes_end (suc n) z w t = rw (t, passes)

-- ---- more fuel changes nothing, once there is enough

yields : (a : Out (Unit {0})) (v : ℕ) (k k' : ℕ → Out (Unit {0})) → k v ≡ k' v → ((a >> yield v) >>= k) ≡ ((a >> yield v) >>= k')
yields (go es u) v k k' e = ap (more (es ++ [])) e
yields (stop es l w) v k k' e = refl

-- a strip goes on with the next cell, or stops
strip_same : (c : Copy) (y sy h x : ℕ) (s : Strip) (k k' : ℕ → Out (Unit {0})) → k (x + s.strip_width) ≡ k' (x + s.strip_width) → (strip c y sy h x s >>= k) ≡ (strip c y sy h x s >>= k')
unfolding strip
strip_same c y sy h x s k k' e = by (ltb c.capacity (s.line * h)) refl
  where
    by : (t : Bool) → ltb c.capacity (s.line * h) ≡ t → (strip c y sy h x s >>= k) ≡ (strip c y sy h x s >>= k')
    by true p = rw (p, strip)
    by false p = rw (p, strip) (yields (strip_entries c y sy h x s) (x + s.strip_width) k k' e)

wide : (f : Bool) (w x sx iw : ℕ) → x < w → sx < iw → 1 ≤ min (w - x) (cond f (sx + 1) (iw - sx))
wide true w x sx iw h l = omega arith
wide false w x sx iw h l = omega arith

-- R 482: a strip is at least one cell wide
pub strip_wide : (c : Copy) (x : ℕ) → 0 < c.image_width → x < c.width → 1 ≤ (strip_of c x).strip_width
unfolding strip_of
strip_wide c x i h = wide c.flip c.width x (modulo (column c x) c.image_width) c.image_width h (modulo_lt (column c x) i)

pub columns_fuel : (n : ℕ) (c : Copy) (y sy h x : ℕ) → 0 < c.image_width → c.width ≤ n + x → columns n c y sy h x ≡ columns (suc n) c y sy h x
columns_fuel zero c y sy h x i e = columns_end 0 c y sy h x (le-ltb x c.width (omega arith)) ∙ sym (columns_end 1 c y sy h x (le-ltb x c.width (omega arith)))
columns_fuel (suc n) c y sy h x i e = by (ltb x c.width) refl (columns_fuel n c y sy h (x + (strip_of c x).strip_width) i)
  where
    by : (t : Bool) → ltb x c.width ≡ t → (c.width ≤ n + (x + (strip_of c x).strip_width) → columns n c y sy h (x + (strip_of c x).strip_width) ≡ columns (suc n) c y sy h (x + (strip_of c x).strip_width)) → columns (suc n) c y sy h x ≡ columns (suc (suc n)) c y sy h x
    by true p r =
        columns_on n c y sy h x p
        ∙ strip_same c y sy h x (strip_of c x) (λ next. columns n c y sy h next) (λ next. columns (suc n) c y sy h next) (r (omega (arith, strip_wide c x i (ltb-true x c.width p))))
        ∙ sym (columns_on (suc n) c y sy h x p)
    by false p r = columns_end (suc n) c y sy h x p ∙ sym (columns_end (suc (suc n)) c y sy h x p)

-- R 473: and at least one line high
pub strip_high : (c : Copy) (y : ℕ) → 0 < c.rows → 0 < c.image_height → y < c.height → 1 ≤ strip_height_of c y
strip_high c y r i h = omega (arith, mod-lt (c.source_y + y) i)

pub rows_fuel : (n : ℕ) (c : Copy) (y : ℕ) → 0 < c.rows → 0 < c.image_height → c.height ≤ n + y → rows n c y ≡ rows (suc n) c y
rows_fuel zero c y r i e = rows_end 0 c y (le-ltb y c.height (omega arith)) ∙ sym (rows_end 1 c y (le-ltb y c.height (omega arith)))
rows_fuel (suc n) c y r i e = by (ltb y c.height) refl (rows_fuel n c (y + strip_height_of c y) r i)
  where
    by : (t : Bool) → ltb y c.height ≡ t → (c.height ≤ n + (y + strip_height_of c y) → rows n c (y + strip_height_of c y) ≡ rows (suc n) c (y + strip_height_of c y)) → rows (suc n) c y ≡ rows (suc (suc n)) c y
    by true p q =
        rows_on n c y p
        ∙ ap (λ (a : Out (Unit {0})). columns c.width c y (strip_row_of c y) (strip_height_of c y) 0 >>= (λ _. a)) (q (omega (arith, strip_high c y r i (ltb-true y c.height p))))
        ∙ sym (rows_on (suc n) c y p)
    by false p q = rows_end (suc n) c y p ∙ sym (rows_end (suc (suc n)) c y p)

-- ---- the same for passes: each lowers 64 × lines left − count / 16, since frame_rows is at least 16

then : {A B : Type 0} (a : Out A) (es : List Entry) (g : A → B) (k k' : B → Out (Unit {0})) → ((s : A) → k (g s) ≡ k' (g s)) → ((a >>= (λ s. more es (yield (g s)))) >>= k) ≡ ((a >>= (λ s. more es (yield (g s)))) >>= k')
then (go fs s) es g k k' e = ap (more (fs ++ (es ++ []))) (e s)
then (stop fs l v) es g k k' e = refl

pub pass_same : (z : Scaled) (w : Walk) (k k' : Walk → Out (Unit {0}))
    → (eqb (draw_of w) 0 ≡ true → (s : Source) → k (next_pass z w.frame_y w.frame_remain w.count s) ≡ k' (next_pass z w.frame_y w.frame_remain w.count s))
    → (eqb (draw_of w) 0 ≡ false → (y : ℕ) (s : Source) → k (next_pass z y (w.frame_remain -ℤ pos (draw_of w)) (pos (modulo w.count 1024)) s) ≡ k' (next_pass z y (w.frame_remain -ℤ pos (draw_of w)) (pos (modulo w.count 1024)) s))
    → (pass z w >>= k) ≡ (pass z w >>= k')
unfolding pass idle_pass draw_pass
pass_same z w k k' idle drawn = by (eqb (draw_of w) 0) refl
  where
    by : (t : Bool) → eqb (draw_of w) 0 ≡ t → (pass z w >>= k) ≡ (pass z w >>= k')
    by true p = rw (p, pass) (then (advance z w.source w.slice_rows) [] _ k k' (idle p))
    by false p = rw (p, pass) (then (load_1cyc z w.source _) (_ ∷ []) _ k k' (drawn p _))

none_above : (v : ℤ) → up v ≡ 0 → lt_z (pos 0) v ≡ false
none_above (pos n) e = le-ltb 0 n (omega arith)
none_above (negsuc n) e = refl

below : (f d : ℕ) → f ≤ d → lt_z (pos 0) (pos f -ℤ pos d) ≡ false
below f d h = none_above (pos f -ℤ pos d) (simp zdiff (simp zparts (omega zarith)))

pub above : (f d : ℕ) → d < f → pos f -ℤ pos d ≡ pos (f - d)
above f d h = simp zdiff (omega zarith)

-- what a pass leaves, by whether it draws; `rec` is the claim for the passes after it
module _ (m : ℕ) (z : Scaled) (w : Walk) (f c : ℕ) (r : 16 ≤ z.frame_rows) (p : w.frame_remain ≡ pos f) (q : w.count ≡ pos c) (e : 64 * f + 1 ≤ suc m + c / 16) (some_left : 0 < f)
    (rec : (w' : Walk) (f' c' : ℕ) → w'.frame_remain ≡ pos f' → w'.count ≡ pos c' → 1 ≤ m → 64 * f' + 1 ≤ m + c' / 16 → passes m z w' ≡ passes (suc m) z w') where
  lines : draw_of w ≡ c / 1024
  lines = ap (λ (v : ℤ). up (floor_div v 1024)) q

  pub after_idle : eqb (draw_of w) 0 ≡ true → (s : Source) → passes m z (next_pass z w.frame_y w.frame_remain w.count s) ≡ passes (suc m) z (next_pass z w.frame_y w.frame_remain w.count s)
  after_idle t s =
      let d : draw_of w ≡ 0 = eqb-true (draw_of w) 0 t in
      let l : draw_of w ≡ c / 1024 = lines in
      let k : c / 1024 ≡ 0 = omega arith in
      rec (next_pass z w.frame_y w.frame_remain w.count s) f (c + z.frame_rows) p (ap (λ (v : ℤ). v +ℤ pos z.frame_rows) q) (omega arith) (omega arith)

  pub after_lines : eqb (draw_of w) 0 ≡ false → (y : ℕ) (s : Source) → passes m z (next_pass z y (w.frame_remain -ℤ pos (draw_of w)) (pos (modulo w.count 1024)) s) ≡ passes (suc m) z (next_pass z y (w.frame_remain -ℤ pos (draw_of w)) (pos (modulo w.count 1024)) s)
  after_lines t y s = by (ltb (c / 1024) f) refl
    where
      next : Walk
      next = next_pass z y (w.frame_remain -ℤ pos (draw_of w)) (pos (modulo w.count 1024)) s

      left : w.frame_remain -ℤ pos (draw_of w) ≡ pos f -ℤ pos (c / 1024)
      left = ap (λ (v : ℤ). v -ℤ pos (draw_of w)) p ∙ ap (λ (n : ℕ). pos f -ℤ pos n) lines

      count : pos (modulo w.count 1024) +ℤ pos z.frame_rows ≡ pos (c % 1024 + z.frame_rows)
      count = ap (λ (v : ℤ). pos (modulo v 1024) +ℤ pos z.frame_rows) q

      by : (u : Bool) → ltb (c / 1024) f ≡ u → passes m z next ≡ passes (suc m) z next
      by true u =
          let h : c / 1024 < f = ltb-true (c / 1024) f u in
          rec next (f - c / 1024) (c % 1024 + z.frame_rows) (left ∙ above f (c / 1024) h) count (omega arith) (omega arith)
      by false u =
          let g : lt_z (pos 0) next.frame_remain ≡ false = ap (λ (v : ℤ). lt_z (pos 0) v) left ∙ below f (c / 1024) (ltb-false (c / 1024) f u) in
          passes_end m z next g ∙ sym (passes_end (suc m) z next g)

-- ---- a stage as an index into what is to come: what is left of a plan after its first n entries

abbrev pub entries_out : {A : Type 0} → Out A → List Entry
entries_out (go es a) = es
entries_out (stop es l v) = es

abbrev pub drop_out : {A : Type 0} → ℕ → Out A → Out A
drop_out n (go es a) = go (drop n es) a
drop_out n (stop es l v) = stop (drop n es) l v

drop_more : {A : Type 0} (n : ℕ) (es : List Entry) (a : Out A) → n ≤ length es → drop_out n (more es a) ≡ more (drop n es) a
drop_more n es (go fs a) h = ap (λ (m : List Entry). go m a) (drop-append-le n es fs h)
drop_more n es (stop fs l v) h = ap (λ (m : List Entry). stop m l v) (drop-append-le n es fs h)

-- within the first part, the rest is untouched
pub drop_bind : {A B : Type 0} (n : ℕ) (a : Out A) (k : A → Out B) → n ≤ length (entries_out a) → drop_out n (a >>= k) ≡ (drop_out n a >>= k)
drop_bind n (go es a) k h = drop_more n es (k a) h
drop_bind n (stop es l v) k h = refl
