-- Bounds of products and quotients, and a word's units.
-- Assumes nothing.
use Rattle.std.specs.Prelude.{Bool, true, false, cond, ◌≡◌, ℕ, zero, suc, ◌+◌, ◌-◌, ◌*◌, ◌/◌, ◌%◌, ◌<◌, ◌≤◌, ◌^◌, ℤ, pos, neg_ℤ, ◌+ℤ◌, ◌*ℤ◌, ◌≤ℤ◌}
use Rattle.std.specs.Int.{div_ceil}
use Rattle.std.proofs.Common.{sym, ap, ◌∙◌, arith, mul-le-mul_left, mul-div_cancel, div-mul-le_self, lit<, lit≤, pow_pos, pow-add}
use Rattle.std.specs.Int.Bits.{bit_and}
use Rattle.std.proofs.lemmas.Nat.{and_mask, div-mul-add}
use Rattle.std.proofs.lemmas.Grind.{div_ceil_times}
use Rattle.signed.specs.Diff.{zdiff, zarith, add_is, →eq}
use Rattle.signed.specs.Floor.{floor_div, parts}

pub sampled_le : (q scale : ℕ) → scale ≤ 65535 → q * scale / 128 ≤ q * 512
sampled_le q scale h = omega (arith, mul-le-mul_left q h)

power : (n k : ℕ) → k ≤ n → 2 ^ n / 2 ^ k ≡ 2 ^ (n - k)
power n k h =
    let e : n ≡ n - k + k = omega arith in
    ap (λ (i : ℕ). 2 ^ i / 2 ^ k) e ∙ ap (λ (i : ℕ). i / 2 ^ k) (pow-add 2 (n - k) k) ∙ mul-div_cancel (2 ^ (n - k)) (pow_pos k)

-- the units of a 64-bit word are 64 to 512
pub shift_range : (siz : ℕ) → siz ≤ 3 → (64 ≤ 512 / 2 ^ siz) × (512 / 2 ^ siz ≤ 512)
shift_range zero h = (lit≤ tt, lit≤ tt)
shift_range (suc zero) h = (lit≤ tt, lit≤ tt)
shift_range (suc (suc zero)) h = (lit≤ tt, lit≤ tt)
shift_range (suc (suc (suc zero))) h = (lit≤ tt, lit≤ tt)
shift_range (suc (suc (suc (suc n)))) h = absurd (omega arith)

-- a mask of the bits below such a word's units
pub mask_is : (x siz : ℕ) → siz ≤ 3 → bit_and x (512 / 2 ^ siz - 1) ≡ x % (512 / 2 ^ siz)
mask_is x siz h = rw (power 9 siz (omega arith)) (and_mask x (9 - siz))

-- a frame's greatest extent, by z, what the image gives less one
pub cleared : (z : ℤ) → neg_ℤ (pos 1) ≤ℤ z → z ≤ℤ pos (2 ^ 26) → (neg_ℤ (pos 4) ≤ℤ (floor_div z 4 *ℤ pos 4)) × ((floor_div z 4 *ℤ pos 4) ≤ℤ pos (2 ^ 26))
cleared z l h = let p = parts z 4 (lit< tt) in simp zdiff (omega zarith)

pub add_nothing : (z : ℤ) → z ≡ z +ℤ pos 0
add_nothing z = →eq _ _ (omega (arith, add_is z (pos 0)))

-- a quotient by at least 8, and a choice
pub quotient_le : (n x w : ℕ) → x ≤ n * 8 → 8 ≤ w → x / w ≤ n
quotient_le n x w h k = omega (arith, div-mul-le_self x w, mul-le-mul_left (x / w) k)

pub chosen_le : (t : Bool) {a b n : ℕ} → a ≤ n → b ≤ n → cond t a b ≤ n
chosen_le true h k = h
chosen_le false h k = k

-- the library's quotient that is rounded up
pub ceil_is : (a b : ℕ) → 0 < b → div_ceil a b ≡ (a + (b - 1)) / b
ceil_is a b h = let t = div_ceil_times a b h in at (div_ceil a b) t.0 t.1
  where
    at : (q : ℕ) → a ≤ q * b → q * b < a + b → q ≡ (a + (b - 1)) / b
    at q l u =
        let e : a + (b - 1) ≡ q * b + (a + (b - 1) - q * b) = omega arith in
        sym (ap (λ (n : ℕ). n / b) e ∙ div-mul-add q b (a + (b - 1) - q * b) (omega arith))
