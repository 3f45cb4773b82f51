-- Shifts and masks of a signed integer, whose local holds its bits in two's complement: `x << k` is z · 2^k where that fits, `x & (2^k − 1)` is z modulo 2^k, `x & !(2^k − 1)` is z rounded down to a multiple of 2^k, and `x >> k` is z / 2^k rounded down.
-- Each law is over the width w and the count k. Assumes nothing.
use Rattle.std.specs.Prelude.{◌≡◌, ℕ, zero, suc, ◌+◌, ◌*◌, ◌-◌, ◌/◌, ◌%◌, ◌<◌, ◌≤◌, ◌^◌, ◌≤ℤ◌, ℤ, pos, negsuc, neg_ℤ, nat_abs, ◌-ℤ◌, ◌*ℤ◌}
use Rattle.std.proofs.Common.{sym, ap, ◌∙◌, subst, arith, div-add-mod', mod-lt, mul-le-mul_right, mod-eq_of_lt, div-lt_iff_lt-mul, div-mul-le_self, div-le_self, pow-suc, pow-add, pow_pos}
use Rattle.std.proofs.Math.Pow.{shr_mod}
use Rattle.std.specs.Int.Bits.{bit_and}
use Rattle.std.proofs.lemmas.Nat.{and_mask}
use Rattle.std.proofs.lemmas.Nat.Bits.{and_high}
use Rattle.std.specs.Int.Signed.{mag, quot_z, rem_z, mag_rem}
use Rattle.std.specs.Int.{Width, w64}
use mir.Val.{SFits, bits, hbits, to_z, of_z}
use mir.ValLaws.{to_z-of_z, to_z_pos, of_z_fits, pow-bits, sfits_le}
use Rattle.signed.specs.Diff.{up, dn, ◌⊖◌, ⊖_is, zdiff, zarith, add_is, neg_is, mul_is, →sfits}
use Rattle.signed.specs.Floor.{floor_div, modulo, modulo_lt, floor_is, unique}

-- the bits of z are z, or z + 2^w below 0
abbrev pub below0 : ℤ → ℕ
below0 (pos n) = 0
below0 (negsuc n) = 1

pub bits_are : (w : Width) (z : ℤ) → SFits w z → of_z w z + dn z ≡ up z + below0 z * 2 ^ bits w
bits_are w (pos n) f = omega arith
bits_are w (negsuc n) f = omega (arith, f.sfits, pow-bits w)

-- the bits of z are z modulo 2^w
pub bits_modulo : (w : Width) (z : ℤ) → SFits w z → of_z w z ≡ modulo z (2 ^ bits w)
bits_modulo w (pos n) f = sym (mod-eq_of_lt (omega (arith, f.sfits, pow-bits w)))
bits_modulo w (negsuc n) f = ap (λ (k : ℕ). 2 ^ bits w - suc k) (sym (mod-eq_of_lt (omega (arith, f.sfits, pow-bits w))))

-- a number that is z modulo 2^w has, modulo 2^w, the bits of z
pub wrapped : (w : Width) (z : ℤ) (n q : ℕ) → SFits w z → n + dn z ≡ up z + q * 2 ^ bits w → to_z w (n % 2 ^ bits w) ≡ z
wrapped w z n q f e =
    ap (to_z w) ((unique z M (n / M ⊖ q) (n % M) (mod-lt n (pow_pos (bits w))) (omega (arith, div-add-mod' n M, ap (λ (k : ℕ). k * M) (⊖_is (n / M) q)))).rest ∙ sym (bits_modulo w z f))
    ∙ to_z-of_z w z f
  where
    M : ℕ
    M = 2 ^ bits w

-- ---- a shift to the left, as a product by m
pub shl_word : (w : Width) (z : ℤ) (m : ℕ) → SFits w z → SFits w (z *ℤ pos m) → to_z w ((of_z w z * m) % 2 ^ bits w) ≡ z *ℤ pos m
shl_word w z m f g = wrapped w (z *ℤ pos m) (of_z w z * m) (below0 z * m) g (omega (arith, mul_is z (pos m), ap (λ (k : ℕ). k * m) (bits_are w z f)))

-- bits below 2^w that are z modulo 2^w are the bits of z
pub reads : (w : Width) (z : ℤ) (n q : ℕ) → SFits w z → n < 2 ^ bits w → n + dn z ≡ up z + q * 2 ^ bits w → to_z w n ≡ z
reads w z n q f l e = ap (to_z w) (sym (mod-eq_of_lt l)) ∙ wrapped w z n q f e

-- the upper half of the bits read as n − 2^w
pub reads_high : (w : Width) (n : ℕ) → 2 ^ hbits w ≤ n → n < 2 ^ bits w → to_z w n ≡ pos n -ℤ pos (2 ^ bits w)
reads_high w n h l = reads w (pos n -ℤ pos (2 ^ bits w)) n 1 (simp zdiff (omega (zarith, pow-bits w))) l (omega (arith, add_is (pos n) (neg_ℤ (pos (2 ^ bits w))), neg_is (pos (2 ^ bits w))))

-- ---- masks: k low bits, and the j high bits
module _ (w : Width) (j k : ℕ) (e : suc j + k ≡ bits w) (z : ℤ) (f : SFits w z) where
  pow : 2 ^ bits w ≡ 2 ^ suc j * 2 ^ k
  pow = ap (λ (n : ℕ). 2 ^ n) (sym e) ∙ pow-add 2 (suc j) k

  hpow : 2 ^ hbits w ≡ 2 ^ j * 2 ^ k
  hpow = omega (arith, pow, pow-bits w, ap (λ (n : ℕ). n * 2 ^ k) (pow-suc 2 j))

  low_bits : of_z w z % 2 ^ k ≡ modulo z (2 ^ k)
  low_bits = (unique z (2 ^ k) (of_z w z / 2 ^ k ⊖ below0 z * 2 ^ suc j) (of_z w z % 2 ^ k) (mod-lt _ (pow_pos k))
      (omega (arith, bits_are w z f, div-add-mod' (of_z w z) (2 ^ k), ap (λ (n : ℕ). below0 z * n) pow, ap (λ (n : ℕ). n * 2 ^ k) (⊖_is (of_z w z / 2 ^ k) (below0 z * 2 ^ suc j))))).rest

  -- `x & (2^k − 1)`
  pub and_low : to_z w (bit_and (of_z w z) (2 ^ k - 1)) ≡ pos (modulo z (2 ^ k))
  and_low = ap (to_z w) (and_mask (of_z w z) k ∙ low_bits) ∙ to_z_pos w (modulo z (2 ^ k)) (omega (arith, modulo_lt z (pow_pos k), hpow, mul-le-mul_right (2 ^ k) (pow_pos j)))

  high_bits : bit_and (of_z w z) (2 ^ bits w - 2 ^ k) ≡ of_z w z / 2 ^ k * 2 ^ k
  high_bits =
      ap (λ (n : ℕ). bit_and (of_z w z) (2 ^ n - 2 ^ k)) (sym e) ∙ and_high (of_z w z) (suc j) k
      ∙ ap (λ (n : ℕ). n * 2 ^ k) (shr_mod (suc j) k (subst (λ (n : ℕ). of_z w z < 2 ^ n) (sym e) (of_z_fits w z f).fits))

  fitting : (z : ℤ) → SFits w z → SFits w (floor_div z (2 ^ k) *ℤ pos (2 ^ k))
  fitting (pos n) f = record { sfits = omega (arith, div-mul-le_self n (2 ^ k), f.sfits) }
  fitting (negsuc n) f = →sfits w _ (omega (
    arith,
    mul_is (negsuc (n / 2 ^ k)) (pos (2 ^ k)),
    mul-le-mul_right (2 ^ k) ((div-lt_iff_lt-mul (pow_pos k)).1 (subst (λ (x : ℕ). n < x) hpow f.sfits)),
    hpow,
  ))

  pub floor_fits : SFits w (floor_div z (2 ^ k) *ℤ pos (2 ^ k))
  floor_fits = fitting z f

  -- `x & !(2^k − 1)`
  pub and_high_word : to_z w (bit_and (of_z w z) (2 ^ bits w - 2 ^ k)) ≡ floor_div z (2 ^ k) *ℤ pos (2 ^ k)
  and_high_word = ap (to_z w) high_bits ∙ reads w _ _ (below0 z) floor_fits (omega (arith, div-mul-le_self (of_z w z) (2 ^ k), (of_z_fits w z f).fits))
      (omega (arith, mul_is (floor_div z (2 ^ k)) (pos (2 ^ k)), floor_is z (2 ^ k) (pow_pos k), bits_are w z f, div-add-mod' (of_z w z) (2 ^ k), low_bits))

-- ---- what a local's bits read as: `rd f` for a signed value that fits, `rdn n h` for an unsigned n below 2^63 (n is written out, so that the goal stays in the source's terms)
pub rd : {z : ℤ} → SFits w64 z → to_z w64 (of_z w64 z) ≡ z
rd {z} f = to_z-of_z w64 z f

pub rdn : (n : ℕ) → n < 2 ^ 63 → to_z w64 n ≡ pos n
rdn n h = to_z_pos w64 n h

-- and `rk r ok` for a call's result, with what `c.f.ok` says of it
pub rk : (z : ℤ) → mag z < 2 ^ 63 → to_z w64 (of_z w64 z) ≡ z
rk z h = to_z-of_z w64 z (record { sfits = h })

-- a quotient, a remainder and a shift to the right fit where the dividend does
neg_mag : (r a : ℕ) → r ≤ suc a → mag (neg_ℤ (pos r)) ≤ a
neg_mag zero a h = omega arith
neg_mag (suc r) a h = omega arith

pub quot_fits : (w : Width) (z d : ℤ) → pos 1 ≤ℤ d → SFits w z → SFits w (quot_z z d)
quot_fits w (pos n) (pos m) h f = sfits_le {y = pos (n / m)} {z = pos n} (div-le_self n m) f
quot_fits w (negsuc n) (pos m) h f = sfits_le {y = neg_ℤ (pos (suc n / m))} {z = negsuc n} (neg_mag (suc n / m) n (div-le_self (suc n) m)) f
quot_fits w z (negsuc m) h f = absurd h.le

-- the bits of a divisor are not 0
pub bits_pos : (d : ℤ) → pos 1 ≤ℤ d → 0 < of_z w64 d
bits_pos (pos m) h = omega zarith
bits_pos (negsuc m) h = absurd h.le

pub rem_fits : (w : Width) (z d : ℤ) → SFits w z → SFits w (rem_z z d)
rem_fits w z d f = sfits_le {y = rem_z z d} {z = z} (mag_rem z d) f

pub floor_div_fits : (w : Width) (z : ℤ) (m : ℕ) → SFits w z → SFits w (floor_div z m)
floor_div_fits w (pos n) m f = sfits_le {y = pos (n / m)} {z = pos n} (div-le_self n m) f
floor_div_fits w (negsuc n) m f = sfits_le {y = negsuc (n / m)} {z = negsuc n} (div-le_self n m) f

pub modulo_fits : (w : Width) (z d : ℤ) → pos 1 ≤ℤ d → SFits w d → SFits w (pos (modulo z (nat_abs d)))
modulo_fits w z (pos m) h f = omega (zarith, modulo_lt z {m = m} (omega zarith))
modulo_fits w z (negsuc m) h f = absurd h.le
