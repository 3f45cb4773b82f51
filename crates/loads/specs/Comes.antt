-- Ranges of signed sums and products, by powers of two.
-- Assumes nothing.
use Rattle.std.specs.Prelude.{◌≡◌, ℕ, suc, ◌+◌, ◌-◌, ◌*◌, ◌/◌, ◌^◌, ◌≤◌, ℤ, pos, negsuc, ◌+ℤ◌, ◌-ℤ◌, ◌*ℤ◌}
use Rattle.std.proofs.Common.{arith, mul-le-mul, pow-suc, div-le_self, pow-add, pow_pos, SFits, to_z, of_z}
use Rattle.std.specs.Int.{w64}
use Rattle.signed.specs.Diff.{up, dn, zdiff, zarith}
use Rattle.signed.specs.Floor.{floor_div}
use Rattle.signed.specs.Word.{rd}
use Rattle.measures.specs.Range.{Within}

pub times_comm : (n : ℕ) (z : ℤ) → pos n *ℤ z ≡ z *ℤ pos n
times_comm n z = simp zdiff (omega zarith)

-- what lies within 2^k, as bounds of naturals
pub record Bounded (k : ℕ) (z : ℤ) : Type 0 where
  pub up_le : suc (up z) ≤ 2 ^ k
  pub dn_le : dn z ≤ 2 ^ k

pub bounded : (k : ℕ) (z : ℤ) → Within k z → Bounded k z
bounded k (pos n) f = let fh = f.high in let p = pow_pos k in record { up_le = omega zarith; dn_le = omega zarith }
bounded k (negsuc n) f = let fl = simp zdiff at f.low in let p = pow_pos k in record { up_le = omega zarith; dn_le = omega zarith }

pub within : (k : ℕ) (z : ℤ) → up z ≤ 2 ^ k - 1 → dn z ≤ 2 ^ k → Within k z
within k z u d = record { low = simp zdiff (omega zarith); high = omega zarith }

pub wider : (k j : ℕ) (z : ℤ) → 2 ^ k ≤ 2 ^ j → Within k z → Within j z
wider k j z h f = let b = bounded k z f in within j z (omega (arith, b.up_le)) (omega (arith, b.dn_le))

pub difference_in : (k : ℕ) (a b : ℤ) → Within k a → Within k b → Within (suc k) (a -ℤ b)
difference_in k a b f g =
    let p = bounded k a f in
    let q = bounded k b g in
    let e = pow-suc 2 k in
    record { low = simp zdiff (omega zarith); high = simp zdiff (omega zarith) }

pub plus_in : (k : ℕ) (a : ℤ) (n : ℕ) → Within k a → n ≤ 2 ^ k → Within (suc k) (a +ℤ pos n)
plus_in k a n f h =
    let p = bounded k a f in
    let e = pow-suc 2 k in
    record { low = simp zdiff (omega zarith); high = simp zdiff (omega zarith) }

pub less_in : (k : ℕ) (a : ℤ) (n : ℕ) → Within k a → n ≤ 2 ^ k → Within (suc k) (a -ℤ pos n)
less_in k a n f h =
    let p = bounded k a f in
    let e = pow-suc 2 k in
    record { low = simp zdiff (omega zarith); high = simp zdiff (omega zarith) }

pub times_in : (k j : ℕ) (a : ℤ) (n : ℕ) → Within k a → n ≤ 2 ^ j - 1 → Within (k + j) (a *ℤ pos n)
times_in k j a n f h =
    let p = bounded k a f in
    let r = pow_pos j in
    let u : suc (up a) * suc n ≤ 2 ^ k * 2 ^ j = mul-le-mul p.up_le (omega arith) in
    let d : dn a * n ≤ 2 ^ k * 2 ^ j = mul-le-mul p.dn_le (omega arith) in
    let e = pow-add 2 k j in
    record { low = simp zdiff (omega zarith); high = simp zdiff (omega zarith) }

-- what lies within 2^62 fits a word
pub fits : (k : ℕ) (z : ℤ) → 2 ^ k ≤ 2 ^ 62 → Within k z → SFits w64 z
fits k z p f =
    let b = bounded k z f in
    omega (zarith, b.up_le, b.dn_le)

-- and its bits read as it
pub read_in : (k : ℕ) (z : ℤ) → 2 ^ k ≤ 2 ^ 62 → Within k z → to_z w64 (of_z w64 z) ≡ z
read_in k z p f = rd (fits k z p f)

pub sum_in : (k : ℕ) (a b : ℤ) → Within k a → Within k b → Within (suc k) (a +ℤ b)
sum_in k a b f g =
    let p = bounded k a f in
    let q = bounded k b g in
    let e = pow-suc 2 k in
    record { low = simp zdiff (omega zarith); high = simp zdiff (omega zarith) }

-- a difference and a sum of two signed words: the bits of each fit, and read as it
module _ {k : ℕ} {a b : ℤ} (p : 2 ^ suc k ≤ 2 ^ 62) (f : Within k a) (g : Within k b) where
  within_too : 2 ^ k ≤ 2 ^ 62
  within_too = let e = pow-suc 2 k in omega arith

  pub difference_fits : SFits w64 (to_z w64 (of_z w64 a) -ℤ to_z w64 (of_z w64 b))
  difference_fits = rw (read_in k a within_too f, read_in k b within_too g) (fits (suc k) (a -ℤ b) p (difference_in k a b f g))

  pub difference_is : to_z w64 (of_z w64 (to_z w64 (of_z w64 a) -ℤ to_z w64 (of_z w64 b))) ≡ a -ℤ b
  difference_is = rw (read_in k a within_too f, read_in k b within_too g) (read_in (suc k) (a -ℤ b) p (difference_in k a b f g))

  pub sum_is : to_z w64 (of_z w64 (to_z w64 (of_z w64 a) +ℤ to_z w64 (of_z w64 b))) ≡ a +ℤ b
  sum_is = rw (read_in k a within_too f, read_in k b within_too g) (read_in (suc k) (a +ℤ b) p (sum_in k a b f g))

pub floor_in : (k : ℕ) (z : ℤ) (m : ℕ) → Within k z → Within k (floor_div z m)
floor_in k (pos n) m f = let b = bounded k (pos n) f in within k (pos (n / m)) (omega (arith, b.up_le, div-le_self n m)) (omega arith)
floor_in k (negsuc n) m f = let b = bounded k (negsuc n) f in within k (negsuc (n / m)) (omega arith) (omega (arith, b.dn_le, div-le_self n m))
