-- The walk in closed form, and that each pass keeps it: each rectangle that `passes` emits is near.
-- Assumes nothing.
use Rattle.std.specs.Prelude.{◌≡◌, refl, Bool, true, false, cond, List, [], ◌∷◌, ℕ, zero, suc, ◌+◌, ◌-◌, ◌*◌, ◌/◌, ◌%◌, ◌<◌, ◌≤◌, eqb, ℤ, pos, neg_ℤ, ◌+ℤ◌, ◌-ℤ◌, ◌*ℤ◌, negsuc}
use Rattle.std.proofs.Common.{sym, ap, ◌∙◌, subst, arith, add-one, eqb-true}
use Rattle.std.proofs.lemmas.Bool.{lt-leb}
use Rattle.std.specs.Int.Signed.{lt_z, le_z}
use Rattle.signed.specs.Diff.{up, zdiff, zarith, lt_z_true}
use Rattle.signed.specs.Floor.{floor_div, modulo, floor_mod}
use Rattle.signed.specs.Cast.{min_z, i16}
use Rattle.measures.specs.Measure.{thirty_seconds}
use Rattle.plan.specs.Out.{Out, more, ◌>>=◌}
use Rattle.plan.specs.declared.types.Scaled.{Scaled}
use Rattle.plan.specs.declared.types.Source.{Source}
use Rattle.plan.specs.declared.types.Walk.{Walk}
use Rattle.plan.specs.Scaled.{row_of, draw_of, next_pass, advance, load_1cyc, draw_pass, idle_pass, pass, passes}
use Rattle.plan.specs.Laws.{entries_out, bind_assoc, more_nil, passes_on, passes_end}
use Rattle.plan.specs.Demand.{Drift, strips, ahead, Near, AllNear}
use Rattle.drift.specs.Core
use Rattle.drift.specs.Plain.{After, plainly, wrapping, entries_more, near_bind, quiet_advance, quiet_rows}
use Rattle.drift.proofs.Line.{distance, near, small_at, shifted}
use Rattle.drift.specs.Walk.{row_at, Fixed, At, pass_left, pass_lines, pass_rows, pass_rect, drawn_next, idle_next}

one_more : (o c a b i : ℤ) → b ≡ a +ℤ i → b +ℤ o +ℤ c ≡ a +ℤ o +ℤ c +ℤ i
one_more o c a b i e = rw e (simp zdiff (omega zarith))

apart : (o c a b : ℤ) → pos 1024 *ℤ (a +ℤ o +ℤ c) +ℤ b ≡ pos 1024 *ℤ a +ℤ pos 1024 *ℤ (o +ℤ c) +ℤ b
apart o c a b = simp zdiff (omega zarith)

none_more : (a : ℤ) → a +ℤ pos 0 ≡ a
none_more a = simp zdiff (omega zarith)

-- strips after the first have no rows above the start
pub later : (d : Drift) (k0 k : ℕ) → d.slice ≡ pos k0 → k0 ≤ k → row_at d (pos (suc k)) ≡ pos d.image_rows *ℤ pos (suc k) +ℤ floor_div d.origin 32 +ℤ pos d.carry
later d k0 k e h = by (pos d.image_rows *ℤ pos (suc k) +ℤ floor_div d.origin 32 +ℤ pos d.carry) (le_z (pos (suc k)) d.slice) (rw e (lt-leb (suc k) k0 (omega arith)))
  where
    by : (a : ℤ) (t : Bool) → t ≡ false → a +ℤ cond t d.first_rows (pos 0) ≡ a
    by a t f = subst (λ (u : Bool). a +ℤ cond u d.first_rows (pos 0) ≡ a) (sym f) (none_more a)

-- a line's distance is its strip's, in closed form
pub line_distance : (d : Drift) (z : Scaled) (k0 l rho e : ℕ) (w : Walk) (k earlier c v : ℕ) → Fixed d z k0 l rho e → At d z k0 l w k earlier c v → (j : ℕ)
    → ahead d (pos k) (row_of z w.source.remain) (i16 w.t.0) earlier j ≡ pos (1024 * (d.image_rows * k) + v) -ℤ pos (d.h * (l + earlier) + rho + 32 * modulo d.origin 32)
line_distance d z k0 l rho e w k earlier c v f a j = by (row_of z w.source.remain) (i16 w.t.0) d.image_h a.row (small_at w.t.0 a.t) f.rows
  where
    by : (row : ℕ) (ult : ℤ) (ih : ℕ) → row ≡ modulo (row_at d (pos k)) d.source_rows → ult ≡ pos (thirty_seconds w.t) → ih ≡ 4 * d.source_rows
        → pos (1024 * row) +ℤ pos 32 *ℤ ult +ℤ pos (d.h * j) -ℤ pos (32 * (d.start + 32 * d.carry) + d.h * (j + earlier)) +ℤ pos (256 * ih) *ℤ floor_div (row_at d (pos k)) d.source_rows ≡ pos (1024 * (d.image_rows * k) + v) -ℤ pos (d.h * (l + earlier) + rho + 32 * modulo d.origin 32)
    by row ult ih p q r =
        rw (p, q, r) (distance d.h d.source_rows d.start d.carry l rho d.image_rows k (thirty_seconds w.t) j v (modulo (row_at d (pos k)) d.source_rows) earlier (modulo d.origin 32) (floor_div (row_at d (pos k)) d.source_rows) d.origin (floor_div d.origin 32) (row_at d (pos k)) (floor_mod (row_at d (pos k)) d.source_rows f.some) (floor_mod d.origin 32 (omega arith)) f.offset a.sampled)

-- each line of a strip is near
pub line_near : (d : Drift) (z : Scaled) (k0 l rho e : ℕ) (w : Walk) (k earlier c v : ℕ) → Fixed d z k0 l rho e → At d z k0 l w k earlier c v → (j : ℕ) → Near d (pos k) (ahead d (pos k) (row_of z w.source.remain) (i16 w.t.0) earlier j)
line_near d z k0 l rho e w k earlier c v f a j =
    subst (λ (x : ℤ). Near d (pos k) x) (sym (line_distance d z k0 l rho e w k earlier c v f a j)) (near d (l + earlier) rho k v f.rest a.behind a.before)

-- `remain` after a pass, as a congruence
pub row_after : (d : Drift) (z : Scaled) (k0 l rho e : ℕ) (w : Walk) (k earlier c v : ℕ) → Fixed d z k0 l rho e → At d z k0 l w k earlier c v → (s : Source) → After z.source_rows w.source.remain w.slice_rows s
    → modulo (pos z.source_rows -ℤ s.remain) z.source_rows ≡ modulo (row_at d (pos (suc k))) d.source_rows
row_after d z k0 l rho e w k earlier c v f a s h =
    by z.source_rows f.source (row_at d (pos k)) (row_at d (pos (suc k))) (times z.source_rows w.source.remain w.slice_rows s h).0 a.row (later d k0 k f.slice a.late ∙ a.rows) (times z.source_rows w.source.remain w.slice_rows s h).1
  where
    times : (n : ℕ) (remain rows : ℤ) (s : Source) → After n remain rows s → (i : ℤ) × (pos n -ℤ s.remain ≡ pos n -ℤ remain +ℤ rows +ℤ i *ℤ pos n)
    times n remain rows s (plainly h) = (pos 0, rw h (simp zdiff (omega zarith)))
    times n remain rows s (wrapping h) = (neg_ℤ (pos 1), rw h (simp zdiff (omega zarith)))

    by : (m : ℕ) → m ≡ d.source_rows → (x y i : ℤ) → modulo (pos m -ℤ w.source.remain) m ≡ modulo x d.source_rows → y ≡ x +ℤ w.slice_rows → pos m -ℤ s.remain ≡ pos m -ℤ w.source.remain +ℤ w.slice_rows +ℤ i *ℤ pos m → modulo (pos m -ℤ s.remain) m ≡ modulo y d.source_rows
    by m g x y i p q r = shifted (pos m -ℤ w.source.remain) x (pos m -ℤ s.remain) y w.slice_rows i m (rw g f.some) (p ∙ ap (λ (u : ℕ). modulo x u) (sym g)) r q ∙ ap (λ (u : ℕ). modulo y u) g

-- the walk after a pass: r is what is left of `count`
pub next_at : (d : Drift) (z : Scaled) (k0 l rho e : ℕ) (w : Walk) (k earlier c v : ℕ) → Fixed d z k0 l rho e → At d z k0 l w k earlier c v
    → (y : ℕ) (left cnt : ℤ) (s : Source) (r earlier' : ℕ) → After z.source_rows w.source.remain w.slice_rows s → cnt ≡ pos r → r < 1024 → r + 1024 * (l + earlier') ≡ z.frame_rows * suc k
    → At d z k0 l (next_pass z y left cnt s) (suc k) earlier' (r + z.frame_rows) 0
next_at d z k0 l rho e w k earlier c v f a y left cnt s r earlier' h p q g =
    let n = later d k0 k f.slice a.late in
    record {
      late = omega (arith, a.late);
      count = ap (λ (u : ℤ). u +ℤ pos z.frame_rows) p;
      lines = omega arith;
      row = row_after d z k0 l rho e w k earlier c v f a s h;
      rows = by (floor_div d.origin 32) z.image_rows (row_at d (pos (suc k))) f.held n;
      t = record { low = omega zarith; high = omega zarith };
      sampled = drawn (floor_div d.origin 32) (row_at d (pos (suc k))) n;
      behind = omega (arith, Core.behind z.frame_rows d.h e r (l + earlier') (suc k) d.image_rows f.frame g);
      before = omega (arith, Core.before z.frame_rows d.h e r (l + earlier') (suc k) d.image_rows f.frame f.frame_rest g q);
    }
  where
    by : (o : ℤ) (i : ℕ) (x : ℤ) → i ≡ d.image_rows → x ≡ pos d.image_rows *ℤ pos (suc k) +ℤ o +ℤ pos d.carry → pos d.image_rows *ℤ pos (suc (suc k)) +ℤ o +ℤ pos d.carry ≡ x +ℤ pos i
    by o i x e f = rw (e, f) (one_more o (pos d.carry) (pos (d.image_rows * suc k)) (pos (d.image_rows * suc (suc k))) (pos d.image_rows) (ap pos (omega arith)))

    drawn : (o x : ℤ) → x ≡ pos d.image_rows *ℤ pos (suc k) +ℤ o +ℤ pos d.carry → pos 1024 *ℤ x +ℤ pos (32 * 0) ≡ pos (1024 * (d.image_rows * suc k)) +ℤ pos 1024 *ℤ (o +ℤ pos d.carry) +ℤ pos 0
    drawn o x f = rw f (apart o (pos d.carry) (pos (d.image_rows * suc k)) (pos 0))

pub idle_is : (z : Scaled) (w : Walk) (k : Walk → Out (Unit {0})) → eqb (draw_of w) 0 ≡ true → (pass z w >>= k) ≡ (advance z w.source w.slice_rows >>= (λ s. more [] (k (idle_next z w s))))
unfolding pass idle_pass
idle_is z w k p = rw (p, pass) (bind_assoc (advance z w.source w.slice_rows) _ k)

pub draw_is : (z : Scaled) (w : Walk) (k : Walk → Out (Unit {0})) → eqb (draw_of w) 0 ≡ false → (pass z w >>= k) ≡ (load_1cyc z w.source (pass_rows z w) >>= (λ s. more (pass_rect z w ∷ []) (k (drawn_next z w s))))
unfolding pass draw_pass
draw_is z w k p = rw (p, pass) (bind_assoc (load_1cyc z w.source (pass_rows z w)) _ k)

-- and the strips' numbers beside it
pub strips_idle : (n f : ℕ) (k left count : ℤ) → lt_z (pos 0) left ≡ true → eqb (up (floor_div count 1024)) 0 ≡ true → strips (suc n) f k left count ≡ strips n f (k +ℤ pos 1) left (count +ℤ pos f)
unfolding strips
strips_idle n f k left count p q = rw (p, q, strips)

pub strips_draw : (n f : ℕ) (k left count : ℤ) → lt_z (pos 0) left ≡ true → eqb (up (floor_div count 1024)) 0 ≡ false → strips (suc n) f k left count ≡ k ∷ strips n f (k +ℤ pos 1) (left -ℤ pos (up (floor_div count 1024))) (pos (modulo count 1024) +ℤ pos f)
unfolding strips
strips_draw n f k left count p q = rw (p, q, strips)

-- ---- the induction

ends : (n : ℕ) (d : Drift) (e : ℕ) (ks : List ℤ) (z : Scaled) (w : Walk) → lt_z (pos 0) w.frame_remain ≡ false → AllNear d e ks (entries_out (passes n z w))
ends n d e ks z w t = rw (passes_end n z w t) tt

not_above : (x : ℤ) → lt_z x (pos 0) ≡ true → lt_z (pos 0) x ≡ false
not_above (pos n) e = absurd (omega (zarith, lt_z_true (pos n) (pos 0) e))
not_above (negsuc n) e = refl

pub lines_apart : (y n : ℕ) → ((y + n) * 4 - y * 4) / 4 ≡ n
lines_apart y n = omega arith

module _ (d : Drift) (z : Scaled) (k0 l rho e : ℕ) (f : Fixed d z k0 l rho e) (n : ℕ) (w : Walk) (k earlier c v : ℕ) (a : At d z k0 l w k earlier c v)
    (rec : (w' : Walk) (k' earlier' c' v' : ℕ) → At d z k0 l w' k' earlier' c' v' → AllNear d earlier' (strips n z.frame_rows (pos k') w'.frame_remain w'.count) (entries_out (passes n z w')))
    (some : lt_z (pos 0) w.frame_remain ≡ true) where
  drawn_is : draw_of w ≡ c / 1024
  drawn_is = ap (λ (u : ℤ). up (floor_div u 1024)) a.count

  idle_near : eqb (draw_of w) 0 ≡ true → AllNear d earlier (strips (suc n) z.frame_rows (pos k) w.frame_remain w.count) (entries_out (pass z w >>= (λ next. passes n z next)))
  idle_near p =
      let none : draw_of w ≡ 0 = eqb-true (draw_of w) 0 p in
      let same : draw_of w ≡ c / 1024 = drawn_is in
      let few : c < 1024 = omega arith in
      rw (strips_idle n z.frame_rows (pos k) w.frame_remain w.count some p, idle_is z w (λ next. passes n z next) p, add-one k)
      (near_bind d earlier _ (advance z w.source w.slice_rows) _ (quiet_advance z w.source w.slice_rows) (λ s h.
      rw (more_nil (passes n z (idle_next z w s)))
      (rec (idle_next z w s) (suc k) earlier (c + z.frame_rows) 0 (next_at d z k0 l rho e w k earlier c v f a w.frame_y w.frame_remain w.count s c earlier h a.count few a.lines))))

  uncut : lt_z (pass_left w) (pos 0) ≡ false → pass_lines w ≡ draw_of w
  uncut t = ap (λ (u : Bool). cond u (up (pos (draw_of w) +ℤ pass_left w)) (draw_of w)) t

  uncut_rows : lt_z (pass_left w) (pos 0) ≡ false → pass_rows z w ≡ w.slice_rows
  uncut_rows t = ap (λ (u : Bool). cond u (min_z (w.slice_rows +ℤ floor_div (pass_left w *ℤ pos z.scale_h.0) 1024 +ℤ pos 1) (pos z.image_rows)) w.slice_rows) t

  -- after the rectangle: the walk is over, or goes on in the closed form
  rest_near : (s : Source) → After z.source_rows w.source.remain (pass_rows z w) s → AllNear d (earlier + pass_lines w) (strips n z.frame_rows (pos (suc k)) (pass_left w) (pos (modulo w.count 1024) +ℤ pos z.frame_rows)) (entries_out (passes n z (drawn_next z w s)))
  rest_near s h = by (lt_z (pass_left w) (pos 0)) refl
    where
      next : Walk
      next = drawn_next z w s

      by : (t : Bool) → lt_z (pass_left w) (pos 0) ≡ t → AllNear d (earlier + pass_lines w) (strips n z.frame_rows (pos (suc k)) (pass_left w) (pos (modulo w.count 1024) +ℤ pos z.frame_rows)) (entries_out (passes n z next))
      by true t = ends n d (earlier + pass_lines w) (strips n z.frame_rows (pos (suc k)) (pass_left w) (pos (modulo w.count 1024) +ℤ pos z.frame_rows)) z next (not_above (pass_left w) t)
      by false t =
          let same : draw_of w ≡ c / 1024 = drawn_is in
          let lines : pass_lines w ≡ draw_of w = uncut t in
          let count : c + 1024 * (l + earlier) ≡ z.frame_rows * suc k = a.lines in
          let u : After z.source_rows w.source.remain w.slice_rows s = subst (λ (r : ℤ). After z.source_rows w.source.remain r s) (uncut_rows t) h in
          rec next (suc k) (earlier + pass_lines w) (c % 1024 + z.frame_rows) 0
          (next_at d z k0 l rho e w k earlier c v f a (w.frame_y + pass_lines w) (pass_left w) (pos (modulo w.count 1024)) s (c % 1024) (earlier + pass_lines w) u (ap (λ (u : ℤ). pos (modulo u 1024)) a.count) (omega arith) (omega arith))

  draw_near : eqb (draw_of w) 0 ≡ false → AllNear d earlier (strips (suc n) z.frame_rows (pos k) w.frame_remain w.count) (entries_out (pass z w >>= (λ next. passes n z next)))
  draw_near p =
      rw (strips_draw n z.frame_rows (pos k) w.frame_remain w.count some p, draw_is z w (λ next. passes n z next) p, add-one k)
      (near_bind d earlier _ (load_1cyc z w.source (pass_rows z w)) _ (quiet_rows z w.source (pass_rows z w)) (λ s h.
      rw (entries_more (pass_rect z w ∷ []) (passes n z (drawn_next z w s)))
      ((λ j _. line_near d z k0 l rho e w k earlier c v f a j), rw (lines_apart w.frame_y (pass_lines w)) (rest_near s h))))

-- each rectangle of the passes is near, from any point of the walk
pub passes_near : (n : ℕ) (d : Drift) (z : Scaled) (k0 l rho e : ℕ) → Fixed d z k0 l rho e → (w : Walk) (k earlier c v : ℕ) → At d z k0 l w k earlier c v → AllNear d earlier (strips n z.frame_rows (pos k) w.frame_remain w.count) (entries_out (passes n z w))
unfolding strips passes
passes_near zero d z k0 l rho e f w k earlier c v a = tt
passes_near (suc n) d z k0 l rho e f w k earlier c v a = by (lt_z (pos 0) w.frame_remain) refl (λ w' k' e' c' v'. passes_near n d z k0 l rho e f w' k' e' c' v')
  where
    lined : (r : (w' : Walk) (k' earlier' c' v' : ℕ) → At d z k0 l w' k' earlier' c' v' → AllNear d earlier' (strips n z.frame_rows (pos k') w'.frame_remain w'.count) (entries_out (passes n z w')))
        → lt_z (pos 0) w.frame_remain ≡ true → (t : Bool) → eqb (draw_of w) 0 ≡ t → AllNear d earlier (strips (suc n) z.frame_rows (pos k) w.frame_remain w.count) (entries_out (pass z w >>= (λ next. passes n z next)))
    lined r s true t = idle_near d z k0 l rho e f n w k earlier c v a r s t
    lined r s false t = draw_near d z k0 l rho e f n w k earlier c v a r s t

    by : (t : Bool) → lt_z (pos 0) w.frame_remain ≡ t
        → ((w' : Walk) (k' earlier' c' v' : ℕ) → At d z k0 l w' k' earlier' c' v' → AllNear d earlier' (strips n z.frame_rows (pos k') w'.frame_remain w'.count) (entries_out (passes n z w')))
        → AllNear d earlier (strips (suc n) z.frame_rows (pos k) w.frame_remain w.count) (entries_out (passes (suc n) z w))
    by true t r = rw (passes_on n z w t) (lined r t (eqb (draw_of w) 0) refl)
    by false t r = ends (suc n) d earlier (strips (suc n) z.frame_rows (pos k) w.frame_remain w.count) z w t
