-- Division of an integer by a positive natural that rounds down, and its remainder, which is not negative: z = m · floor_div z m + modulo z m, and modulo z m < m.
-- Assumes nothing.
use Rattle.std.specs.Prelude.{◌≡◌, refl, ℕ, suc, ◌+◌, ◌*◌, ◌-◌, ◌/◌, ◌%◌, ◌<◌, ◌≤◌, ℤ, pos, negsuc, neg_ℤ, nat_abs, ◌+ℤ◌, ◌-ℤ◌, ◌*ℤ◌, ◌<ℤ◌, ◌≤ℤ◌}
use Rattle.std.proofs.Common.{sym, ap, ◌∙◌, arith, div-add-mod', mod-lt, mod-eq_of_lt, div-le_self, add-one}
use Rattle.std.proofs.Math.Arith.{digits_div, digits_mod}
use Rattle.std.specs.Int.Signed.{quot_z, rem_z}
use Rattle.std.proofs.Math.Nat.{add-div_right}
use Rattle.signed.specs.Diff.{up, dn, zdiff, zarith, neg_is}

abbrev pub floor_div : ℤ → ℕ → ℤ
floor_div (pos n) m = pos (n / m)
floor_div (negsuc n) m = negsuc (n / m)

abbrev pub modulo : ℤ → ℕ → ℕ
modulo (pos n) m = n % m
modulo (negsuc n) m = m - suc (n % m)

pub modulo_lt : (z : ℤ) {m : ℕ} → 0 < m → modulo z m < m
modulo_lt (pos n) h = mod-lt n h
modulo_lt (negsuc n) {m} h = omega arith

-- of a number that is not negative it is the remainder of naturals, and the number itself where that is below m
pub modulo_above : (z : ℤ) (m : ℕ) → dn z ≡ 0 → nat_abs z % m ≡ modulo z m
modulo_above (pos n) m h = refl
modulo_above (negsuc n) m h = absurd (omega arith)

pub modulo_own : (z : ℤ) (m : ℕ) → dn z ≡ 0 → nat_abs z < m → nat_abs z ≡ modulo z m
modulo_own z m h l = sym (mod-eq_of_lt l) ∙ modulo_above z m h

-- the division with its remainder, over ℕ and over ℤ
pub floor_is : (z : ℤ) (m : ℕ) → 0 < m → up (floor_div z m) * m + modulo z m + dn z ≡ up z + dn (floor_div z m) * m
floor_is (pos n) m h = omega (arith, div-add-mod' n m)
floor_is (negsuc n) m h = omega (arith, div-add-mod' n m, mod-lt n h)

pub floor_mod : (z : ℤ) (m : ℕ) → 0 < m → z ≡ floor_div z m *ℤ pos m +ℤ pos (modulo z m)
floor_mod z m h = simp zdiff (omega (zarith, floor_is z m h))

-- both laws as one fact for `omega`, which is linear where m is a numeral
pub record Parts (z : ℤ) (m : ℕ) : Type 0 where
  pub whole : up (floor_div z m) * m + modulo z m + dn z ≡ up z + dn (floor_div z m) * m
  pub below : modulo z m < m
  pub up_le : up (floor_div z m) ≤ up z
  pub dn_le : dn (floor_div z m) ≤ dn z

up_div : (z : ℤ) (m : ℕ) → up (floor_div z m) ≤ up z
up_div (pos n) m = div-le_self n m
up_div (negsuc n) m = omega arith

dn_div : (z : ℤ) (m : ℕ) → dn (floor_div z m) ≤ dn z
dn_div (pos n) m = omega arith
dn_div (negsuc n) m = omega (arith, div-le_self n m)

pub parts : (z : ℤ) (m : ℕ) → 0 < m → Parts z m
parts z m h = record { whole = floor_is z m h; below = modulo_lt z h; up_le = up_div z m; dn_le = dn_div z m }

-- and there is one such quotient and one such remainder
quotient : (q n r m : ℕ) → r < m → q * m + r ≡ n → q ≡ n / m
quotient q n r m h e = sym (ap (λ (k : ℕ). k / m) (sym e) ∙ digits_div q h)

remainder : (q n r m : ℕ) → r < m → q * m + r ≡ n → r ≡ n % m
remainder q n r m h e = sym (ap (λ (k : ℕ). k % m) (sym e) ∙ digits_mod q h)

pub record Divided (z : ℤ) (m : ℕ) (q : ℤ) (r : ℕ) : Type 0 where
  pub quot : q ≡ floor_div z m
  pub rest : r ≡ modulo z m

pub unique : (z : ℤ) (m : ℕ) (q : ℤ) (r : ℕ) → r < m → up q * m + r + dn z ≡ up z + dn q * m → Divided z m q r
unique (pos n) m (pos q) r h e = record { quot = ap pos (quotient q n r m h (omega arith)); rest = remainder q n r m h (omega arith) }
unique (pos n) m (negsuc q) r h e = absurd (omega arith)
unique (negsuc n) m (pos q) r h e = absurd (omega arith)
unique (negsuc n) m (negsuc q) r h e =
    let k : q * m + (m - suc r) ≡ n = omega arith in
    let l : m - suc r < m = omega arith in
    record { quot = ap negsuc (quotient q n (m - suc r) m l k); rest = omega (arith, remainder q n (m - suc r) m l k) }

pub floor_unique : (z : ℤ) (m : ℕ) (q : ℤ) (r : ℕ) → r < m → z ≡ q *ℤ pos m +ℤ pos r → Divided z m q r
floor_unique z m q r h e = let k = simp zdiff at e in unique z m q r h (omega zarith)

-- −7 is −4 · 2 + 1, and 7 is 3 · 2 + 1
minus_seven : (floor_div (negsuc 6) 2 ≡ negsuc 3) × (modulo (negsuc 6) 2 ≡ 1)
minus_seven = (refl, refl)

seven : (floor_div (pos 7) 2 ≡ pos 3) × (modulo (pos 7) 2 ≡ 1)
seven = (refl, refl)

-- ---- from a division that rounds toward zero, by a divisor d of at least 1

quot_pos : (n m : ℕ) → 1 ≤ m → quot_z (negsuc n -ℤ (pos m -ℤ pos 1)) (pos m) ≡ negsuc (n / m)
quot_pos n m h =
    let e : negsuc n -ℤ (pos m -ℤ pos 1) ≡ negsuc (n + m - 1) = simp zdiff (omega zarith) in
    let k : suc (n + m - 1) ≡ n + m = omega arith in
    rw (e, k, add-div_right n h, add-one) refl

-- below 0, the divisor less one is taken away first
pub quot_below : (z d : ℤ) → pos 1 ≤ℤ d → z <ℤ pos 0 → quot_z (z -ℤ (d -ℤ pos 1)) d ≡ floor_div z (nat_abs d)
quot_below (pos n) d h l = absurd (omega zarith)
quot_below (negsuc n) (pos m) h l = quot_pos n m (omega zarith)
quot_below (negsuc n) (negsuc m) h l = absurd h.le

pub quot_above : (z d : ℤ) → pos 1 ≤ℤ d → pos 0 ≤ℤ z → quot_z z d ≡ floor_div z (nat_abs d)
quot_above (pos n) (pos m) h l = refl
quot_above (negsuc n) (pos m) h l = absurd l.le
quot_above z (negsuc m) h l = absurd h.le

-- ---- from a remainder with the dividend's sign

rem_neg : (n m : ℕ) → 1 ≤ m → neg_ℤ (pos (suc n % m)) <ℤ pos 0 → neg_ℤ (pos (suc n % m)) +ℤ pos m ≡ pos (modulo (negsuc n) m)
rem_neg n m h l =
    let t : 0 < suc n % m = omega (zarith, neg_is (pos (suc n % m))) in
    let e = (unique (negsuc n) m (negsuc (suc n / m)) (m - suc n % m) (omega arith) (omega (arith, div-add-mod' (suc n) m, mod-lt (suc n) h))).rest in
    simp zdiff (omega (zarith, mod-lt (suc n) h))

rem_zero : (n m : ℕ) → 1 ≤ m → pos 0 ≤ℤ neg_ℤ (pos (suc n % m)) → neg_ℤ (pos (suc n % m)) ≡ pos (modulo (negsuc n) m)
rem_zero n m h l =
    let t : suc n % m ≡ 0 = omega (zarith, neg_is (pos (suc n % m))) in
    let q = neg_is (pos (suc n / m)) in
    let e = (unique (negsuc n) m (neg_ℤ (pos (suc n / m))) 0 h (omega (arith, div-add-mod' (suc n) m, ap (λ (k : ℕ). k * m) q.0, ap (λ (k : ℕ). k * m) q.1))).rest in
    simp zdiff (omega zarith)

-- below 0, the divisor is added
pub rem_below : (z d : ℤ) → pos 1 ≤ℤ d → rem_z z d <ℤ pos 0 → rem_z z d +ℤ d ≡ pos (modulo z (nat_abs d))
rem_below (pos n) d h l = absurd (omega zarith)
rem_below (negsuc n) (pos m) h l = rem_neg n m (omega zarith) l
rem_below (negsuc n) (negsuc m) h l = absurd h.le

pub rem_above : (z d : ℤ) → pos 1 ≤ℤ d → pos 0 ≤ℤ rem_z z d → rem_z z d ≡ pos (modulo z (nat_abs d))
rem_above (pos n) (pos m) h l = refl
rem_above (negsuc n) (pos m) h l = rem_zero n m (omega zarith) l
rem_above z (negsuc m) h l = absurd h.le
