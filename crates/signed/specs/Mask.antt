-- Masks at 64 bits as remainders and quotients by 2^k, one law for every k. Unsigned: `and_mask x k` (`lib.Bits`) for `x & (2^k − 1)`, and `clear`, `clear_rem` for `x & !(2^k − 1)`.
-- Signed: `low`, `high` and `shift_right`, over the laws of `Word`. Assumes nothing.
use Rattle.std.specs.Prelude.{◌≡◌, refl, ℕ, zero, suc, ◌+◌, ◌*◌, ◌-◌, ◌/◌, ◌%◌, ◌<◌, ◌≤◌, ◌^◌, ℤ, pos, negsuc, neg_ℤ, ◌*ℤ◌}
use Rattle.std.proofs.Common.{sym, ap, ◌∙◌, subst, arith, div-add-mod', mul-div_cancel, SFits, to_z, of_z}
use Rattle.std.proofs.Math.Nat.{zero-div}
use Rattle.std.proofs.Math.Pow.{shr_mod}
use Rattle.std.specs.Int.Bits.{bit_and}
use Rattle.std.proofs.lemmas.Nat.Bits.{and_high}
use Rattle.std.specs.Int.Signed.{quot_z, shr_z}
use Rattle.std.specs.Int.{w64}
use Rattle.signed.specs.Floor.{floor_div, modulo}
use Rattle.signed.specs.Word.{and_low, and_high_word, rd, floor_div_fits}

-- `x & !(2^k − 1)`, of an unsigned x
pub clear : (x k : ℕ) → k ≤ 64 → x < 2 ^ 64 → bit_and x (2 ^ 64 - 2 ^ k) ≡ x / 2 ^ k * 2 ^ k
clear x k h l =
    let e : 64 - k + k ≡ 64 = omega arith in
    subst (λ (n : ℕ). bit_and x (2 ^ n - 2 ^ k) ≡ x / 2 ^ k * 2 ^ k) e
    (and_high x (64 - k) k ∙ ap (λ (n : ℕ). n * 2 ^ k) (shr_mod (64 - k) k (subst (λ (n : ℕ). x < 2 ^ n) (sym e) l)))

pub clear_rem : (x k : ℕ) → k ≤ 64 → x < 2 ^ 64 → bit_and x (2 ^ 64 - 2 ^ k) ≡ x - x % 2 ^ k
clear_rem x k h l = omega (arith, clear x k h l, div-add-mod' x (2 ^ k))

-- `x & (2^k − 1)` and `x & !(2^k − 1)`, of a signed x
pub low : (z : ℤ) (k : ℕ) → k ≤ 63 → SFits w64 z → to_z w64 (bit_and (of_z w64 z) (2 ^ k - 1)) ≡ pos (modulo z (2 ^ k))
low z k h f = and_low w64 (63 - k) k (omega arith) z f

pub high : (z : ℤ) (k : ℕ) → k ≤ 63 → SFits w64 z → to_z w64 (bit_and (of_z w64 z) (2 ^ 64 - 2 ^ k)) ≡ floor_div z (2 ^ k) *ℤ pos (2 ^ k)
high z k h f = and_high_word w64 (63 - k) k (omega arith) z f

-- `x >> k`, where m is 2^k
shr_floor : (z : ℤ) (m : ℕ) → shr_z z m ≡ floor_div z m
shr_floor (pos n) m = refl
shr_floor (negsuc n) m = refl

pub shift_right : (z : ℤ) (m : ℕ) → SFits w64 z → to_z w64 (of_z w64 (shr_z (to_z w64 (of_z w64 z)) m)) ≡ floor_div z m
shift_right z m f = ap (λ (x : ℤ). to_z w64 (of_z w64 (shr_z x m))) (rd f) ∙ ap (λ (x : ℤ). to_z w64 (of_z w64 x)) (shr_floor z m) ∙ rd (floor_div_fits w64 z m f)

-- a division that leaves nothing over
quot_neg : (t m : ℕ) → quot_z (neg_ℤ (pos t)) (pos m) ≡ neg_ℤ (pos (t / m))
quot_neg zero m = rw zero-div
quot_neg (suc t) m = refl

pub quot_exact : (z : ℤ) (m : ℕ) → 0 < m → quot_z (z *ℤ pos m) (pos m) ≡ z
quot_exact (pos n) m h = ap pos (mul-div_cancel n h)
quot_exact (negsuc n) m h = quot_neg (suc n * m) m ∙ ap (λ (k : ℕ). neg_ℤ (pos k)) (mul-div_cancel (suc n) h)
