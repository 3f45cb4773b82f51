-- Passes in a row that draw no line (D 8.23): each adds at least 16 to a count that is never negative, and from 1,024 a pass draws, so there are at most 64. D is docs/SPECIFICATION.md.
-- Assumes nothing.
use Rattle.std.specs.Prelude.{◌≡◌, refl, Bool, true, false, List, [], ◌∷◌, ℕ, zero, suc, ◌+◌, ◌*◌, ◌/◌, ◌<◌, ◌≤◌, eqb, ℤ, pos, ◌+ℤ◌}
use Rattle.std.proofs.Common.{ap, ◌∙◌, arith, eq-eqb}
use Rattle.signed.specs.Diff.{up}
use Rattle.signed.specs.Floor.{floor_div, modulo}
use Rattle.plan.specs.declared.types.Entry.{Entry}
use Rattle.plan.specs.declared.types.Scaled.{Scaled}
use Rattle.plan.specs.declared.types.Walk.{Walk}
use Rattle.plan.specs.Out.{Out, more, ◌>>=◌, yield}
use Rattle.plan.specs.Out.Out.{go, stop}
use Rattle.plan.specs.Scaled.{draw_of, advance, load_1cyc, idle_pass, draw_pass, pass}
use Rattle.drift.specs.Walk.{pass_rows, pass_rect, drawn_next, idle_next}

-- a walk that passes reach from another
pub data Reached (z : Scaled) (first : Walk) : Walk → Type 0 where
  start : Reached z first first
  after : {w w' : Walk} {es : List Entry} → Reached z first w → pass z w ≡ go es w' → Reached z first w'

-- n passes in a row from a walk, none of which draws a line
pub data Idle (z : Scaled) : ℕ → Walk → Type 0 where
  none : {w : Walk} → Idle z 0 w
  one : {n : ℕ} {w w' : Walk} {es : List Entry} → draw_of w ≡ 0 → pass z w ≡ go es w' → Idle z n w' → Idle z (suc n) w

-- what goes on is what the last step yields
goes : {A : Type 0} (a : Out A) (fs : List Entry) (g : A → Walk) (es : List Entry) (w : Walk) → (a >>= (λ s. more fs (yield (g s)))) ≡ go es w → (s : A) × (w ≡ g s)
goes (go ds s) fs g es w e = (s, cc)
goes (stop ds l v) fs g es w e = let z : ◌≡◌ {A = ℕ} 0 1 = cc in absurd (omega arith)

-- R 356–362, 405–409: the count after a pass
idle_count : (z : Scaled) (w w' : Walk) (es : List Entry) → eqb (draw_of w) 0 ≡ true → pass z w ≡ go es w' → w'.count ≡ w.count +ℤ pos z.frame_rows
unfolding pass idle_pass
idle_count z w w' es t e = let g = goes (advance z w.source w.slice_rows) [] (idle_next z w) es w' (rw (t, pass) at e) in ap (λ (x : Walk). x.count) g.1

drawn_count : (z : Scaled) (w w' : Walk) (es : List Entry) → eqb (draw_of w) 0 ≡ false → pass z w ≡ go es w' → w'.count ≡ pos (modulo w.count 1024) +ℤ pos z.frame_rows
unfolding pass draw_pass
drawn_count z w w' es t e = let g = goes (load_1cyc z w.source (pass_rows z w)) (pass_rect z w ∷ []) (drawn_next z w) es w' (rw (t, pass) at e) in ap (λ (x : Walk). x.count) g.1

-- a count that is not negative stays so
natural_after : (z : Scaled) (w w' : Walk) (es : List Entry) (c : ℕ) → w.count ≡ pos c → pass z w ≡ go es w' → (c' : ℕ) × (w'.count ≡ pos c')
natural_after z w w' es c n e = by (eqb (draw_of w) 0) refl
  where
    by : (t : Bool) → eqb (draw_of w) 0 ≡ t → (c' : ℕ) × (w'.count ≡ pos c')
    by true t = (c + z.frame_rows, idle_count z w w' es t e ∙ ap (λ (u : ℤ). u +ℤ pos z.frame_rows) n)
    by false t = (modulo w.count 1024 + z.frame_rows, drawn_count z w w' es t e)

pub reached_natural : (z : Scaled) (first w : Walk) (c : ℕ) → first.count ≡ pos c → Reached z first w → (c' : ℕ) × (w.count ≡ pos c')
reached_natural z first w c n start = (c, n)
reached_natural z first w c n (after {w = x} {es = es} r e) = let m = reached_natural z first x c n r in natural_after z x w es m.0 m.1 e

-- the count before the last of n + 1 passes without a line
still_below : (z : Scaled) (n : ℕ) (w : Walk) (c : ℕ) → 16 ≤ z.frame_rows → w.count ≡ pos c → Idle z (suc n) w → c + 16 * n < 1024
still_below z zero w c r q (one d e i) = let g : draw_of w ≡ c / 1024 = ap (λ (v : ℤ). up (floor_div v 1024)) q in omega arith
still_below z (suc n) w c r q (one {w' = w'} {es = es} d e i) =
    let m : w'.count ≡ pos (c + z.frame_rows) = idle_count z w w' es (eq-eqb (draw_of w) 0 d) e ∙ ap (λ (u : ℤ). u +ℤ pos z.frame_rows) q in
    omega (arith, still_below z n w' (c + z.frame_rows) r m i)

-- from any walk with a count that is not negative
pub idle_64 : (z : Scaled) (n : ℕ) (w : Walk) (c : ℕ) → 16 ≤ z.frame_rows → w.count ≡ pos c → Idle z n w → n ≤ 64
idle_64 z zero w c r q i = omega arith
idle_64 z (suc n) w c r q i = omega (arith, still_below z n w c r q i)
