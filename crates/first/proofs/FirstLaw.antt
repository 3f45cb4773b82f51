-- The first strip starts at most its lines before the frame's first line: what is hidden of it, what is left, and the ranges.
-- Assumes nothing.
use Rattle.std.specs.Prelude.{◌≡◌, refl, ℕ, ◌+◌, ◌-◌, ◌*◌, ◌/◌, ◌^◌, ◌<◌, ◌≤◌, ℤ, pos, neg_ℤ, ◌+ℤ◌, ◌-ℤ◌, ◌*ℤ◌, ◌≤ℤ◌}
use Rattle.std.proofs.Common.{sym, ap, ◌∙◌, arith, mul-le-mul, lit<, SFits}
use Rattle.std.proofs.Math.Path.{subst}
use Rattle.std.specs.Int.{w64}
use Rattle.signed.specs.Diff.{up, dn, zdiff, zarith, mul_is}
use Rattle.signed.specs.Floor.{floor_div, modulo, modulo_lt, parts}
use Rattle.measures.specs.Range.{Around}
use Rattle.plan.specs.declared.types.Scaled.{Scaled}
use Rattle.plan.specs.declared.types.Start.{Start}
use Rattle.plan.specs.Scaled.{first_of}
use Rattle.plan.specs.Sound.{SoundScaled, SoundFirst}
use Rattle.first.specs.First.{image_offset_of, frame_offset_of, slice_start_of, hidden_of, count_of, image_row_of, offset_of, slice_of, start_of_slice}
use Rattle.first.specs.FirstLaw.{Starts, first_from}

pub starts : (e : ℤ) (f : ℕ) → 0 < f → Starts e f (slice_start_of f (floor_div e f))
unfolding slice_start_of
starts e f h = let p = parts e f h in record { sum = omega (zarith, mul_is (pos f) (floor_div e f)); below = p.below }

hidden_at : (e s : ℤ) (r : ℕ) → up s + r + dn e ≡ up e + dn s → e -ℤ floor_div s 1024 *ℤ pos 1024 ≡ pos (r + modulo s 1024)
hidden_at e s r h = let p = parts s 1024 (lit< tt) in simp zdiff (omega zarith)

-- what is hidden is that remainder and the start's own, so it is not negative
pub hidden_is : (e : ℤ) (f : ℕ) (s : ℤ) → Starts e f s → hidden_of e s ≡ pos (modulo e f + modulo s 1024)
unfolding hidden_of
hidden_is e f s t = hidden_at e s (modulo e f) t.sum

left_at : (a r f : ℕ) → r < f → pos a +ℤ pos f -ℤ pos (r + a) ≡ pos (f - r)
left_at a r f h = simp zdiff (omega zarith)

-- what is left is the rest of the strip
pub count_is : (e : ℤ) (f : ℕ) (s : ℤ) → Starts e f s → count_of s f (pos (modulo e f + modulo s 1024)) ≡ pos (f - modulo e f)
unfolding count_of
count_is e f s t = left_at (modulo s 1024) (modulo e f) f t.below

pub hidden_rows_le : (n scale : ℕ) → n ≤ 2 ^ 30 + 1024 → scale ≤ 65535 → n / 1024 * scale ≤ (2 ^ 20 + 1) * 65535
hidden_rows_le n scale h k = let m : n / 1024 ≤ 2 ^ 20 + 1 = omega arith in mul-le-mul m k

-- the rows that are left of a strip
pub rows_in : (rows hidden : ℕ) → hidden ≤ 2 ^ 27 → rows ≤ 512 → (neg_ℤ (pos (2 ^ 27)) ≤ℤ (pos rows -ℤ pos hidden)) × ((pos rows -ℤ pos hidden) ≤ℤ pos 512)
rows_in rows hidden h k = simp zdiff (omega zarith)

pub row_lt : (s o n : ℤ) (all : ℕ) → 1 ≤ all → image_row_of s o n all < all
unfolding image_row_of
row_lt s o n all h = modulo_lt (s +ℤ floor_div o 32 +ℤ floor_div n 1024) h

pub first_from_lem : (z : Scaled) (i : Start) → first_from z i (slice_of z i) (start_of_slice z i) (hidden_of (offset_of z i) (start_of_slice z i)) ≡ first_of z i
unfolding first_of image_offset_of frame_offset_of slice_start_of hidden_of count_of image_row_of
first_from_lem z i = refl

-- the start and the strip's image row fit, as the distance is within 2^49
pub start_fits : (e : ℤ) (f : ℕ) → 0 < f → f ≤ 2 ^ 29 → Around 49 e → SFits w64 (slice_start_of f (floor_div e f))
start_fits e f h k r = let s = starts e f h in omega zarith

pub slice_in : (e : ℤ) (f : ℕ) → 0 < f → Around 49 e → Around 49 (floor_div e f)
slice_in e f h r = let p = parts e f h in record { low = omega zarith; high = omega zarith }

pub row_in : (rows : ℕ) (k : ℤ) → rows ≤ 512 → Around 49 k → Around 61 (slice_start_of rows k)
unfolding slice_start_of
row_in rows k h r =
    let p : up k ≤ 2 ^ 49 = omega zarith in
    let q : dn k ≤ 2 ^ 49 = omega zarith in
    record { low = simp zdiff (omega (zarith, mul-le-mul h p, mul-le-mul h q)); high = simp zdiff (omega (zarith, mul-le-mul h p, mul-le-mul h q)) }

module _ (z : Scaled) (i : Start) (v : SoundScaled z) where
  n : ℕ
  n = modulo (offset_of z i) z.frame_rows + modulo (start_of_slice z i) 1024

  from : Starts (offset_of z i) z.frame_rows (start_of_slice z i)
  from = starts (offset_of z i) z.frame_rows (omega (arith, v.frame_rows))

  n_le : n ≤ 2 ^ 30 + 1024
  unfolding n
  n_le = omega (arith, from.below, v.frame_rows', modulo_lt (start_of_slice z i) {m = 1024} (lit< tt))

  row_le : n / 1024 * z.scale_h.0 / 1024 ≤ 2 ^ 27
  row_le = omega (arith, hidden_rows_le n z.scale_h.0 n_le v.scale_h')

  sound_at : SoundFirst z (first_from z i (slice_of z i) (start_of_slice z i) (pos n))
  unfolding n
  sound_at =
      let c = count_is (offset_of z i) z.frame_rows (start_of_slice z i) from in
      record {
        count = rw c (omega (zarith, from.below));
        count' = rw c (omega (zarith, v.frame_rows'));
        slice_rows = (rows_in z.image_rows (n / 1024 * z.scale_h.0 / 1024) row_le v.image_rows').0;
        slice_rows' = (rows_in z.image_rows (n / 1024 * z.scale_h.0 / 1024) row_le v.image_rows').1;
        t = record { low = omega zarith; high = omega zarith };
        image_row = row_lt _ _ _ z.source_rows v.source_rows;
      }

  pub first_sound : SoundFirst z (first_of z i)
  unfolding n
  first_sound = subst (SoundFirst z) (ap (first_from z i (slice_of z i) (start_of_slice z i)) (sym (hidden_is (offset_of z i) z.frame_rows (start_of_slice z i) from)) ∙ first_from_lem z i) sound_at
