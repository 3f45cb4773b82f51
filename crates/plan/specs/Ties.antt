-- Where a definition says it in other words than the Rust: each rewording, as a law.
-- Assumes nothing.
use Rattle.std.specs.Prelude.{◌≡◌, refl, Bool, true, false, cond, ℕ, zero, suc, ◌-◌, ◌/◌, ◌≤◌, max, leb, eqb, ℤ, pos, negsuc, neg_ℤ, ◌+ℤ◌, ◌-ℤ◌, ◌≤ℤ◌, ◌<ℤ◌}
use Rattle.std.proofs.Common.{sym, ap, ◌∙◌, arith, lit<, ne_eqb, leb-true, leb-false}
use Rattle.std.specs.Int.Signed.{le_z, quot_z}
use Rattle.std.proofs.lemmas.Bool.{lt-leb}
use Rattle.signed.specs.Diff.{up, neg_is, zdiff, zparts, zarith}
use Rattle.signed.specs.Floor.{floor_div, quot_below, quot_above}
use Rattle.signed.specs.Mask.{quot_exact}
use Rattle.signed.specs.Cast.{clear_low}

-- `z <= 0` is `up z == 0`: width, height, image_rows, draw
pub none_left : (z : ℤ) → le_z z (pos 0) ≡ eqb (up z) 0
none_left (pos zero) = refl
none_left (pos (suc n)) = lt-leb (suc n) 0 (omega arith) ∙ sym (ne_eqb (suc n) 0 (λ e. omega arith))
none_left (negsuc n) = refl

-- (right - left) / 4, rounded toward zero, and cut at 0
pub cells : (z : ℤ) → up (quot_z z (pos 4)) ≡ up z / 4
cells (pos n) = refl
cells (negsuc n) = (neg_is (pos (suc n / 4))).0

-- x + (4 × ulx - x).max(0) is never negative: `up` cuts nothing
pub clipped : (x : ℤ) (u : ℕ) → pos (up (x +ℤ pos (up (pos u -ℤ x)))) ≡ x +ℤ pos (up (pos u -ℤ x))
clipped x u = simp zdiff (simp zparts (omega zarith))

chosen : (t : Bool) (n u : ℕ) → leb n u ≡ t → pos (max n u) ≡ cond t (pos u) (pos n)
chosen true n u e = ap pos (omega (arith, leb-true n u e))
chosen false n u e = ap pos (omega (arith, leb-false n u e))

-- frame_x.max(4 × ulx)
pub larger : (x : ℤ) (u : ℕ) → pos (max (up x) u) ≡ cond (le_z x (pos u)) (pos u) x
larger (pos n) u = chosen (leb n u) n u refl
larger (negsuc n) u = ap pos (omega arith)

-- the distance from the origin: below 0, `scale_h - 1` is taken away before the division
pub distance_below : (z : ℤ) (h : ℕ) → 1 ≤ h → z <ℤ pos 0 → quot_z (z -ℤ (pos h -ℤ pos 1)) (pos h) ≡ floor_div z h
distance_below z h p n = quot_below z (pos h) (omega zarith) n

pub distance_above : (z : ℤ) (h : ℕ) → 1 ≤ h → pos 0 ≤ℤ z → quot_z z (pos h) ≡ floor_div z h
distance_above z h p n = quot_above z (pos h) (omega zarith) n

-- (origin & !0x1f) / 32
pub origin_rows : (z : ℤ) → quot_z (clear_low z 32) (pos 32) ≡ floor_div z 32
origin_rows z = quot_exact (floor_div z 32) 32 (lit< tt)

-- capacity / line - bilerp, cut at 0
pub rows_left : (a b : ℕ) → up (pos a -ℤ pos b) ≡ a - b
rows_left a b = simp zdiff (simp zparts (omega zarith))

-- `load_1cyc` wraps with d2 = draw_rows - remain, a pass without a line with -remain: the same
pub wrapped : (n : ℕ) (remain rows : ℤ) → pos n -ℤ (rows -ℤ remain) ≡ remain -ℤ rows +ℤ pos n
wrapped n remain rows = simp zdiff (omega zarith)

pub wrapped_by : (remain rows : ℤ) → rows -ℤ remain ≡ neg_ℤ (remain -ℤ rows)
wrapped_by remain rows = simp zdiff (omega zarith)
