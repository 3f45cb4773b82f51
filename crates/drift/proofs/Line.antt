-- One line of one strip: its distance in closed form, and that it is near.
-- Assumes nothing.
use Rattle.std.specs.Prelude.{◌≡◌, refl, Bool, true, false, cond, ℕ, ◌+◌, ◌*◌, ◌<◌, ◌≤◌, ◌^◌, eqb, ℤ, pos, neg_ℤ, ◌+ℤ◌, ◌-ℤ◌, ◌*ℤ◌, ◌≤ℤ◌}
use Rattle.std.proofs.Common.{sym, ap, ◌∙◌, arith, mod-eq_of_lt, eqb-true}
use Rattle.std.specs.Int.{w16}
use Rattle.std.proofs.lemmas.Int.{to_z_pos}
use Rattle.signed.specs.Diff.{up, zdiff, zarith}
use Rattle.signed.specs.Floor.{floor_div, modulo, floor_mod, floor_unique, modulo_lt}
use Rattle.signed.specs.Cast.{i16}
use Rattle.measures.specs.Range.{Below, counted}
use Rattle.plan.specs.Demand.{Drift, Near}

-- a line of strip k is d = 1,024 R k + v − h S − ρ − 32 × om, om what the origin has below a whole row, with v = 1,024 × the first strip's rows + 32 × t
pub distance : (h n start carry l rho rr k t j v r earlier om : ℕ) (q o p x : ℤ)
    → x ≡ q *ℤ pos n +ℤ pos r
    → o ≡ p *ℤ pos 32 +ℤ pos om
    → pos (32 * start) ≡ pos 32 *ℤ o +ℤ pos (h * l + rho)
    → pos 1024 *ℤ x +ℤ pos (32 * t) ≡ pos (1024 * (rr * k)) +ℤ pos 1024 *ℤ (p +ℤ pos carry) +ℤ pos v
    → pos (1024 * r) +ℤ pos 32 *ℤ pos t +ℤ pos (h * j) -ℤ pos (32 * (start + 32 * carry) + h * (j + earlier)) +ℤ pos (256 * (4 * n)) *ℤ q ≡ pos (1024 * (rr * k) + v) -ℤ pos (h * (l + earlier) + rho + 32 * om)
distance h n start carry l rho rr k t j v r earlier om q o p x ex eo es eu =
    let a = simp zdiff at ex in
    let b = simp zdiff at eo in
    let c = simp zdiff at es in
    let e = simp zdiff at eu in
    simp zdiff (omega zarith)

-- the limit behind has room for 30, and for 32 for each thirty-second that the origin has below a whole row
room : (om : ℕ) → om < 32 → 30 + 32 * om ≤ cond (eqb om 0) 30 1022
room om l = by (eqb om 0) refl
  where
    by : (t : Bool) → eqb om 0 ≡ t → 30 + 32 * om ≤ cond t 30 1022
    by true e = let z : om ≡ 0 = eqb-true om 0 e in omega arith
    by false e = omega arith

wider : (h m n : ℕ) (x : ℤ) → m ≤ n → neg_ℤ (pos (h + m)) ≤ℤ x → neg_ℤ (pos (h + n)) ≤ℤ x
wider h m n x l b = let c = simp zdiff at b in simp zdiff (omega zarith)

-- a line is within the two limits
pub near : (d : Drift) (s rho k v : ℕ) → rho < d.h → d.h * s ≤ 1024 * (d.image_rows * k) + v + 31 → 1048576 * (d.image_rows * k) + 1024 * v ≤ 1024 * (d.h * s) + (1024 * d.h + d.h * k)
    → Near d (pos k) (pos (1024 * (d.image_rows * k) + v) -ℤ pos (d.h * s + rho + 32 * modulo d.origin 32))
near d s rho k v r b f =
    let om = modulo d.origin 32 in
    let x = pos (1024 * (d.image_rows * k) + v) -ℤ pos (d.h * s + rho + 32 * om) in
    record {
      behind = wider d.h (30 + 32 * om) (cond (eqb om 0) 30 1022) x (room om (modulo_lt d.origin (omega arith))) (behind_by d.h d.image_rows om r b);
      before = before_by d.h d.image_rows om f;
    }
  where
    behind_by : (h rr om : ℕ) → rho < h → h * s ≤ 1024 * (rr * k) + v + 31 → neg_ℤ (pos (h + (30 + 32 * om))) ≤ℤ (pos (1024 * (rr * k) + v) -ℤ pos (h * s + rho + 32 * om))
    behind_by h rr om r b = simp zdiff (omega zarith)

    before_by : (h rr om : ℕ) → 1048576 * (rr * k) + 1024 * v ≤ 1024 * (h * s) + (1024 * h + h * k) → (pos 1024 *ℤ (pos (1024 * (rr * k) + v) -ℤ pos (h * s + rho + 32 * om))) ≤ℤ (pos h *ℤ (pos 1024 +ℤ pos k))
    before_by h rr om b = simp zdiff (omega zarith)

-- a `t` below 32 is its own cast to 16 bits
small : (t : ℕ) → t < 32 → i16 (pos t) ≡ pos t
small t h = rw (mod-eq_of_lt {n = t} {m = 2 ^ 16} (omega arith)) (to_z_pos w16 t (omega arith))

pub small_at : (t : ℤ) → Below 5 t → i16 t ≡ pos (up t)
small_at t h = ap i16 (sym (counted h.low)) ∙ small (up t) (omega zarith)

-- a remainder does not change by whole images
pub same_rest : (x y m : ℤ) (n : ℕ) → 0 < n → x ≡ y +ℤ m *ℤ pos n → modulo x n ≡ modulo y n
same_rest x y m n h e = sym (floor_unique x n (floor_div y n +ℤ m) (modulo y n) (modulo_lt y h) (by (floor_div y n) (modulo y n) (floor_mod y n h))).rest
  where
    by : (q : ℤ) (r : ℕ) → y ≡ q *ℤ pos n +ℤ pos r → x ≡ (q +ℤ m) *ℤ pos n +ℤ pos r
    by q r f = e ∙ rw f (simp zdiff (omega zarith))

-- the same rows added to two numbers of one remainder, and whole images to one of them
pub shifted : (x y x' y' rows m : ℤ) (n : ℕ) → 0 < n → modulo x n ≡ modulo y n → x' ≡ x +ℤ rows +ℤ m *ℤ pos n → y' ≡ y +ℤ rows → modulo x' n ≡ modulo y' n
shifted x y x' y' rows m n h e p q =
    same_rest x' y' (floor_div x n -ℤ floor_div y n +ℤ m) n h (p ∙ by (floor_div x n) (floor_div y n) (modulo x n) (modulo y n) e (floor_mod x n h) (floor_mod y n h) ∙ ap (λ (u : ℤ). u +ℤ (floor_div x n -ℤ floor_div y n +ℤ m) *ℤ pos n) (sym q))
  where
    by : (a b : ℤ) (r s : ℕ) → r ≡ s → x ≡ a *ℤ pos n +ℤ pos r → y ≡ b *ℤ pos n +ℤ pos s → x +ℤ rows +ℤ m *ℤ pos n ≡ y +ℤ rows +ℤ (a -ℤ b +ℤ m) *ℤ pos n
    by a b r s f g k = rw (g, k, f) (simp zdiff (omega zarith))
