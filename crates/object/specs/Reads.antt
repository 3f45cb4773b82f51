-- Laws of big-endian reads: one byte more, the bound by the bytes' number, the first bytes alone, and room for one more byte.
-- Assumes nothing.
use Rattle.std.specs.Prelude.{◌≡◌, refl, Bool, true, false, cond, List, ℕ, zero, suc, ◌+◌, ◌*◌, ◌^◌, ◌≤◌, ◌<◌, take, get_or}
use Rattle.std.proofs.Common.{add-one, pow-suc, arith, lit<}
use Rattle.std.proofs.lemmas.List.{get_or-take}
use Rattle.std.proofs.Math.Nat.{pow-le-pow_right}
use Rattle.object.specs.Layout.{read, size_of, Bytes, ReadIs}

pub read_none : (bs : List ℕ) (at : ℕ) → ReadIs bs at 0 0
unfolding read
read_none bs at = record { is = omega arith; below = lit< tt }

pub read_more : (bs : List ℕ) (at n r b : ℕ) → ReadIs bs at n r → b ≡ get_or bs (at + n) 0 → b < 256 → ReadIs bs at (n + 1) (r * 256 + b)
unfolding read
read_more bs at n r b h e l = record { is = rw (h.is, e, add-one); below = rw add-one (omega (arith, h.below, pow-suc 256 n)) }

-- n bytes make a number below 256^n
pub read_below : (bs : List ℕ) (at n : ℕ) → Bytes bs → read bs at n < 256 ^ n
unfolding read
read_below bs at zero h = lit< tt
read_below bs at (suc n) h = omega (arith, read_below bs at n h, h (at + n), pow-suc 256 n)

-- a number within the first k bytes is theirs
pub read_first : (bs : List ℕ) (k at n : ℕ) → at + n ≤ k → read (take k bs) at n ≡ read bs at n
unfolding read
read_first bs k at zero h = refl
read_first bs k at (suc n) h = rw (read_first bs k at n (omega arith), get_or-take k bs (at + n) 0 (omega arith))

-- a number of fewer than eight bytes leaves room for one more
pub room : (n r : ℕ) → n < 8 → r < 256 ^ n → r < 256 ^ 7
room n r h l = omega (arith, pow-le-pow_right {n = 256} (lit< tt) {i = n} {j = 7} (omega arith))

-- an object that is long enough has the fields that both kinds have, and those of its kind
pub common_held : (p : ℕ) (copy : Bool) (n : ℕ) → size_of p copy ≤ n → 32 + p ≤ n
common_held p true n h = omega arith
common_held p false n h = omega arith

pub copy_held : (p : ℕ) (copy : Bool) (a n : ℕ) → size_of p copy ≤ n → a ≤ 36 + p → cond copy a 0 ≤ n
copy_held p true a n h l = omega arith
copy_held p false a n h l = omega arith

pub scaled_held : (p : ℕ) (copy : Bool) (a n : ℕ) → size_of p copy ≤ n → a ≤ 32 + p → cond copy 0 a ≤ n
scaled_held p true a n h l = omega arith
scaled_held p false a n h l = omega arith
