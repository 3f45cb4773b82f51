-- One round of the passes: each pass is followed by the passes of the walk after it, with fuel for every line left.
-- Assumes nothing.
use Rattle.std.specs.Prelude.{◌≡◌, refl, true, false, eqb, ℤ, pos, negsuc, ◌+ℤ◌, ◌-ℤ◌}
use Rattle.std.proofs.Common.{sym, ◌∙◌, eqb-true, lt-ltb}
use Rattle.std.proofs.Math.Path.{ap}
use Prim.Native.Nat.{ℕ, zero, suc, ◌+◌, ◌-◌, ◌*◌, ◌/◌, ◌≤◌}
use native.Mathlib.Omega.{arith}
use Rattle.std.proofs.lemmas.Bool.{eqb-false}
use Rattle.std.specs.Int.Signed.{lt_z}
use Rattle.signed.specs.Diff.{up}
use Rattle.signed.specs.Floor.{floor_div, modulo}
use Rattle.plan.specs.declared.types.Scaled.{Scaled}
use Rattle.plan.specs.declared.types.Source.{Source}
use Rattle.plan.specs.declared.types.Walk.{Walk}
use Rattle.plan.specs.Out.{Out, ◌>>=◌, ◌>>◌, yield, emit}
use Rattle.plan.specs.Ties.{rows_left}
use Rattle.plan.specs.Scaled.{draw_of, next_pass, advance, load_1cyc, idle_pass, draw_pass, pass, passes, rows_of, lines_of, rect_of, after_draw}
use Rattle.plan.specs.Laws.{passes_on, passes_end, pass_same, bind_assoc, more_nil}
use Rattle.plan.proofs.Fuel.{passes_fuel}
use Rattle.loads.specs.Coming.{passes_of}

-- more fuel changes nothing
more_fuel : (k n : ℕ) (z : Scaled) (w : Walk) (f c : ℕ) → 16 ≤ z.frame_rows → w.frame_remain ≡ pos f → w.count ≡ pos c → 1 ≤ n → 64 * f + 1 ≤ n + c / 16 → passes n z w ≡ passes (k + n) z w
more_fuel zero n z w f c r p q one e = let h : 0 + n ≡ n = omega arith in rw h
more_fuel (suc k) n z w f c r p q one e =
    let h : suc k + n ≡ suc (k + n) = omega arith in
    more_fuel k n z w f c r p q one e ∙ passes_fuel (k + n) z w f c r p q (omega arith) (omega arith) ∙ (rw h)

enough : (n m : ℕ) (z : Scaled) (w : Walk) (f c : ℕ) → 16 ≤ z.frame_rows → w.frame_remain ≡ pos f → w.count ≡ pos c → 1 ≤ n → 64 * f + 1 ≤ n + c / 16 → n ≤ m → passes n z w ≡ passes m z w
enough n m z w f c r p q one e h =
    let k : m ≡ (m - n) + n = omega arith in
    more_fuel (m - n) n z w f c r p q one e ∙ (rw (← k))

none_left : (v : ℤ) → up v ≡ 0 → lt_z (pos 0) v ≡ false
none_left (pos zero) e = refl
none_left (pos (suc n)) e = absurd (omega arith)
none_left (negsuc n) e = refl

-- R 353: no line is left
pub passes_over : (z : Scaled) (w : Walk) → up w.frame_remain ≡ 0 → passes_of z w ≡ yield tt
unfolding passes_of
passes_over z w e = passes_end (65 * up w.frame_remain) z w (none_left w.frame_remain e)

-- the passes of the walk after a pass, with the fuel that is left
after : (n : ℕ) (z : Scaled) (w : Walk) (c : ℕ) → 16 ≤ z.frame_rows → w.count ≡ pos c → 1 ≤ n → 64 * up w.frame_remain + 1 ≤ n + c / 16 → n ≤ 65 * up w.frame_remain → passes n z w ≡ passes_of z w
unfolding passes_of
after n z w c r q one e h = by w.frame_remain refl
  where
    by : (v : ℤ) → w.frame_remain ≡ v → passes n z w ≡ passes (65 * up w.frame_remain) z w
    by (pos f) p = enough n (65 * up w.frame_remain) z w f c r p q one (rw p at e) h
    by (negsuc f) p = let g : up w.frame_remain ≡ 0 = ap up p in absurd (omega arith)

below : (n : ℕ) (z : Scaled) (w : Walk) → up w.frame_remain ≡ 0 → passes n z w ≡ passes_of z w
below n z w e = passes_end n z w (none_left w.frame_remain e) ∙ sym (passes_over z w e)

spare : (n : ℕ) (z : Scaled) (w : Walk) (f c : ℕ) → 16 ≤ z.frame_rows → w.frame_remain ≡ pos f → w.count ≡ pos c → 65 * f ≤ n → passes n z w ≡ passes_of z w
unfolding passes_of
spare n z w zero c r p q e = below n z w (ap up p)
spare n z w (suc f) c r p q e = sym (enough (65 * up w.frame_remain) n z w (suc f) c r p q (rw p (omega arith)) (rw p (omega arith)) (rw p e))

module _ (z : Scaled) (w : Walk) (f c : ℕ) (r : 16 ≤ z.frame_rows) (some : 1 ≤ f) (p : w.frame_remain ≡ pos f) (q : w.count ≡ pos c) where
  count_is : draw_of w ≡ c / 1024
  count_is = ap (λ (v : ℤ). up (floor_div v 1024)) q

  idle_next : eqb (draw_of w) 0 ≡ true → (s : Source) → passes (65 * f - 1) z (next_pass z w.frame_y w.frame_remain w.count s) ≡ passes_of z (next_pass z w.frame_y w.frame_remain w.count s)
  idle_next t s =
      let d : draw_of w ≡ 0 = eqb-true (draw_of w) 0 t in
      let k = count_is in
      let n = next_pass z w.frame_y w.frame_remain w.count s in
      let u : up w.frame_remain ≡ f = ap up p in
      after (65 * f - 1) z n (c + z.frame_rows) r (ap (λ (v : ℤ). v +ℤ pos z.frame_rows) q) (omega arith) (rw u (omega arith)) (rw u (omega arith))

  drawn_next : eqb (draw_of w) 0 ≡ false → (y : ℕ) (s : Source) → passes (65 * f - 1) z (next_pass z y (w.frame_remain -ℤ pos (draw_of w)) (pos (modulo w.count 1024)) s) ≡ passes_of z (next_pass z y (w.frame_remain -ℤ pos (draw_of w)) (pos (modulo w.count 1024)) s)
  drawn_next t y s = by (w.frame_remain -ℤ pos (draw_of w)) refl
    where
      n : Walk
      n = next_pass z y (w.frame_remain -ℤ pos (draw_of w)) (pos (modulo w.count 1024)) s

      left : up (pos f -ℤ pos (draw_of w)) ≡ f - draw_of w
      left = rows_left f (draw_of w)

      by : (v : ℤ) → w.frame_remain -ℤ pos (draw_of w) ≡ v → passes (65 * f - 1) z n ≡ passes_of z n
      by (pos g) e =
          let d = eqb-false (draw_of w) 0 t in
          let h : g ≡ f - draw_of w = sym (ap up e) ∙ ap (λ (v : ℤ). up (v -ℤ pos (draw_of w))) p ∙ left in
          spare (65 * f - 1) z n g (modulo w.count 1024 + z.frame_rows) r e refl (omega arith)
      by (negsuc g) e = below (65 * f - 1) z n (ap up e)

  going : lt_z (pos 0) w.frame_remain ≡ true
  going = ap (λ (v : ℤ). lt_z (pos 0) v) p ∙ lt-ltb 0 f (omega arith)

  -- R 353: one pass, and the passes after it
  pub one_pass : passes_of z w ≡ (pass z w >>= (λ next. passes_of z next))
  unfolding passes_of
  one_pass =
      let u : up w.frame_remain ≡ f = ap up p in
      let k : 65 * f ≡ suc (65 * f - 1) = omega arith in
      ap (λ (n : ℕ). passes (65 * n) z w) u ∙ ap (λ (n : ℕ). passes n z w) k ∙ passes_on (65 * f - 1) z w going
      ∙ pass_same z w (λ next. passes (65 * f - 1) z next) (λ next. passes_of z next) idle_next drawn_next

  -- R 356–362: a pass without a line
  pub idle_round : eqb (draw_of w) 0 ≡ true → passes_of z w ≡ (advance z w.source w.slice_rows >>= (λ s. passes_of z (next_pass z w.frame_y w.frame_remain w.count s)))
  unfolding pass idle_pass
  idle_round t = one_pass ∙ (rw (t, pass) (bind_assoc (advance z w.source w.slice_rows) _ _ ∙ ap (λ (k : Source → Out (Unit {0})). advance z w.source w.slice_rows >>= k) (λ i s. more_nil (passes_of z (next_pass z w.frame_y w.frame_remain w.count s)) i)))

  -- R 364–405: a pass that draws
  pub draw_round : eqb (draw_of w) 0 ≡ false → passes_of z w ≡ (load_1cyc z w.source (rows_of z w (draw_of w)) >>= (λ s. emit (rect_of z w (lines_of w (draw_of w))) >> passes_of z (after_draw z w (draw_of w) (lines_of w (draw_of w)) s)))
  unfolding pass draw_pass
  draw_round t = one_pass ∙ (rw (t, pass) (bind_assoc (load_1cyc z w.source (rows_of z w (draw_of w))) _ _))
