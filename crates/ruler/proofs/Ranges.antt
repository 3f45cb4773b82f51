-- No sum of a measure overflows.
-- Assumes nothing.
use Rattle.std.proofs.Common.{◌≡◌, refl, ◌∙◌, Bool, true, false, cond, ℕ, suc, ◌+◌, ◌-◌, ◌*◌, ◌≤◌, ◌^◌, arith, mul-le-mul, mul-le-mul_right, div-mul-le_self, lit<, SFits, to_z, of_z, ℤ, pos, negsuc, ◌+ℤ◌, ◌-ℤ◌, ◌*ℤ◌}
use Rattle.std.specs.Int.{w64}
use Rattle.std.specs.Int.Signed.{le_z}
use Rattle.signed.specs.Word.{rd}
use Rattle.signed.specs.Diff.{up, dn, zdiff, zarith, neg_is}
use Rattle.signed.specs.Floor.{floor_div, parts}
use Rattle.measures.specs.Measure.{whole_rows}
use Rattle.measures.specs.Range.{Within}
use Rattle.ruler.specs.declared.types.Ruler.{Ruler}
use Rattle.ruler.specs.declared.types.Place.{Place}
use Rattle.ruler.specs.Ruler.{SoundRuler}
use Rattle.ruler.specs.Place.{place_at, InPlace}
use Rattle.ruler.specs.Drifts.{SoundPlace, StripOf, NextAt, drawn_from}

pub sum_in : (x y : ℤ) → Within 46 x → Within 31 y → Within 47 (x +ℤ y)
sum_in x y a b = record { low = simp zdiff (omega (zarith, a.low, b.low)); high = simp zdiff (omega (zarith, a.high, b.high)) }

-- a product by a natural is one of `up` and of `dn`
pub scaled_parts : (n : ℕ) (k : ℤ) → (up (pos n *ℤ k) ≡ n * up k) × (dn (pos n *ℤ k) ≡ n * dn k)
scaled_parts n (pos b) = (refl, omega arith)
scaled_parts n (negsuc b) = let e = neg_is (pos (n * suc b)) in (omega (arith, e.0), e.1)

-- a quotient times the divisor is within the dividend
pub quotient_in : (w : ℤ) (rows : ℕ) → (up (floor_div w rows) * rows ≤ up w) × (dn (floor_div w rows) * rows ≤ dn w + rows)
quotient_in (pos n) rows = (div-mul-le_self n rows, omega arith)
quotient_in (negsuc n) rows = (omega arith, omega (arith, div-mul-le_self n rows))

-- whole images, in 1,024ths of a row: image_h is less than 8 times the rows, and m times the rows is within the strip's row
pub images_in : (image rows : ℕ) (w : ℤ) → image ≤ 4 * rows + 3 → 1 ≤ rows → rows ≤ 16383 → Within 48 w → Within 60 (pos (256 * image) *ℤ floor_div w rows)
images_in image rows w i l u b = by (floor_div w rows) (quotient_in w rows) (omega (zarith, b.high)) (omega (zarith, b.low))
  where
    by : (m : ℤ) → (up m * rows ≤ up w) × (dn m * rows ≤ dn w + rows) → up w ≤ 2 ^ 48 → dn w ≤ 2 ^ 48 → Within 60 (pos (256 * image) *ℤ m)
    by m q x y =
        let e = scaled_parts (256 * image) m in
        let s : image ≤ 7 * rows = omega arith in
        let a = mul-le-mul_right (up m) s in
        let d = mul-le-mul_right (dn m) s in
        record { low = omega (zarith, e.0, e.1); high = omega (zarith, e.0, e.1) }

-- ---- the row that a strip's images are counted from

rows_sum : (x y : ℤ) (n : ℕ) → Within 47 x → n ≤ 2 ^ 23 → Within 28 y → Within 48 (x +ℤ pos n +ℤ y)
rows_sum x y n a l b = record { low = simp zdiff (omega (zarith, a.low, b.low)); high = simp zdiff (omega (zarith, a.high, b.high)) }

chosen : (t : Bool) (x : ℤ) → Within 28 x → Within 28 (cond t x (pos 0))
chosen true x h = h
chosen false x h = record { low = omega zarith; high = omega zarith }

origin_rows : (o : ℤ) → Within 31 o → Within 31 (whole_rows o)
origin_rows o w = let p = parts o 32 (lit< tt) in record { low = omega (zarith, w.low); high = omega (zarith, w.high) }

-- the row at which a strip of the ruler's starts
strip_top : (rows : ℕ) (slice : ℤ) (n : ℕ) → rows ≤ 512 → n ≤ 66495 → Within 45 (pos rows *ℤ slice) → Within 46 (pos rows *ℤ (slice +ℤ pos n))
strip_top rows slice n r l w =
    let e : pos rows *ℤ (slice +ℤ pos n) ≡ pos rows *ℤ slice +ℤ pos (rows * n) = simp zdiff (omega zarith) in
    rw e (by (pos rows *ℤ slice) (rows * n) w (mul-le-mul r l))
  where
    by : (x : ℤ) (m : ℕ) → Within 45 x → m ≤ 512 * 66495 → Within 46 (x +ℤ pos m)
    by x m w l = record { low = simp zdiff (omega (zarith, w.low)); high = simp zdiff (omega (zarith, w.high)) }

pub top_in : {r : Ruler} {k : ℤ} → SoundRuler r → StripOf r k → Within 46 (pos r.image_rows *ℤ k)
top_in {r} s t = rw t.at (strip_top r.image_rows r.slice t.since s.image_rows t.few s.top)

pub top_rows_in : {r : Ruler} {k : ℤ} → SoundRuler r → StripOf r k → Within 47 (pos r.image_rows *ℤ k +ℤ whole_rows r.origin)
top_rows_in {r} s t = sum_in _ _ (top_in s t) (origin_rows r.origin s.origin)

pub rows_in : {r : Ruler} {k : ℤ} → SoundRuler r → StripOf r k → Within 48 (pos r.image_rows *ℤ k +ℤ whole_rows r.origin +ℤ pos r.carry +ℤ cond (le_z k r.slice) r.first_rows (pos 0))
rows_in {r} {k} s t = rows_sum _ _ r.carry (top_rows_in s t) s.carry (chosen (le_z k r.slice) r.first_rows s.first_rows)

pub wide_fits : {n : ℕ} {z : ℤ} → 2 ^ n ≤ 2 ^ 62 → Within n z → SFits w64 z
wide_fits {n} l w = omega (zarith, w.low, w.high, neg_is (pos (2 ^ n)))

pub carry_fits : (x : ℤ) (n : ℕ) → Within 47 x → n ≤ 2 ^ 23 → SFits w64 (x +ℤ pos n)
carry_fits x n w l = simp zdiff (omega (zarith, w.low, w.high))

-- ---- a distance

pub near_in : (x y : ℤ) → Within 32 x → Within 48 y → Within 49 (x -ℤ y)
near_in x y a b = record { low = simp zdiff (omega (zarith, a.low, b.high)); high = simp zdiff (omega (zarith, a.high, b.low)) }

pub distance_in : (x y : ℤ) → Within 49 x → Within 60 y → Within 61 (x +ℤ y)
distance_in x y a b = record { low = simp zdiff (omega (zarith, a.low, b.low)); high = simp zdiff (omega (zarith, a.high, b.high)) }

-- the first line of a rectangle
pub first_line : (a b h e : ℕ) (u v : ℤ) → (pos a +ℤ u) -ℤ pos (b + h * e) +ℤ v ≡ (pos a +ℤ u +ℤ pos (h * 0)) -ℤ pos (b + h * (0 + e)) +ℤ v
first_line a b h e u v = let z : h * 0 ≡ 0 = omega arith in rw z (simp zdiff (omega zarith))

-- ---- places

module _ {p : Place} (i : InPlace p) where
  place_strip : Within 46 p.k
  place_strip = record { low = i.low; high = let h = simp zdiff at i.high in omega zarith }

  pub place_fits : SFits w64 p.k
  place_fits = wide_fits {n = 46} (omega arith) place_strip

  pub strip_read : Within 46 (to_z w64 (of_z w64 p.k))
  strip_read = rw (rd place_fits) place_strip

  -- after a pass, whatever lines are left
  pub pass_in : (left count earlier : ℕ) → 1 ≤ p.fuel → count ≤ 2 ^ 30 → earlier ≤ p.earlier + 16384 → InPlace (place_at (p.fuel - 1) (p.k +ℤ pos 1) left count earlier)
  pass_in left count earlier h c l =
      let w = simp zdiff at i.high in
      record { fuel = omega (arith, i.fuel); low = simp zdiff (omega (zarith, i.low)); high = simp zdiff (omega zarith); count = c; earlier = omega (arith, i.earlier) }

module _ {r : Ruler} {f : ℕ} {p s : Place} (g : SoundPlace r p) (n : NextAt f p s) where
  -- the strip that draws next, by the passes since strip `slice`
  next_since : s.k ≡ r.slice +ℤ pos (g.since + n.idle)
  next_since = n.at ∙ rw g.at (simp zdiff (omega zarith))

  next_few : g.since + n.idle + s.fuel ≤ 66495
  next_few = omega (arith, g.few, n.few)

  pub next_strip : StripOf r s.k
  next_strip = record { since = g.since + n.idle; at = next_since; few = omega (arith, next_few) }

  -- and the place after it
  pub drawn_place : (lines : ℕ) → SoundPlace r (drawn_from f s lines)
  drawn_place lines =
      let u = n.fuel in
      let few = next_few in
      let e : s.k +ℤ pos 1 ≡ r.slice +ℤ pos (g.since + n.idle + 1) = rw next_since (simp zdiff (omega zarith)) in
      record { since = g.since + n.idle + 1; at = e; few = omega arith }
