-- The range of a start.
-- Assumes nothing.
use Rattle.std.specs.Prelude.{cond, ℕ, ◌+◌, ◌*◌, ◌/◌, ◌%◌, ◌^◌, ◌<◌, ◌≤◌, ℤ}
use Rattle.std.proofs.Common.{arith, div-mul-le_self}
use Rattle.std.proofs.Math.Nat.{mod-lt}
use Rattle.signed.specs.Diff.{zdiff, zarith}
use Rattle.object.specs.declared.types.ObjBg.{ObjBg}
use Rattle.measures.specs.Measure.{quarters, thirty_seconds, of_rows, in_image, sampled_by}
use Rattle.measures.specs.Range.{Within, Around}
use Rattle.plan.specs.declared.types.Clip.{Clip}
use Rattle.plan.specs.Scaled.{start_of}
use Rattle.scaled.specs.Number.{sampled_le, quotient_le}
use Rattle.scaled.specs.Range.{Usable, Filled, StartIn, extent_le, chosen_in}
use Rattle.scaled.specs.Strip.{origin_of}

position_le : (p cut scale : ℕ) → p ≤ 65535 → cut ≤ 65535 → scale ≤ 65535 → p + sampled_by cut scale ≤ 2 ^ 26
position_le p cut scale h k l = omega (arith, sampled_le cut scale l)

pub origin_in : (o : ℤ) (down back : ℕ) → Within 31 o → down ≤ 2 ^ 31 → back ≤ 2 ^ 31 → Around 33 (origin_of o down back)
unfolding origin_of
origin_in o down back r h k = record { low = simp zdiff (omega zarith); high = simp zdiff (omega zarith) }

module _ (bg : ObjBg) (c : Clip) (u : Usable bg) (f : Filled c) where
  abbrev w : ℕ
  w = in_image (quarters bg.image_w)

  abbrev h : ℕ
  h = in_image (quarters bg.image_h)

  abbrev x : ℕ
  x = thirty_seconds bg.image_x + sampled_by (quarters (cond c.flip c.right c.left)) bg.scale_w.0

  abbrev y : ℕ
  y = thirty_seconds bg.image_y + sampled_by (quarters c.top) bg.scale_h.0 + of_rows (x / w)

  pub w_least : 8 ≤ w
  w_least = omega (arith, u.image_w)

  pub h_least : 8 ≤ h
  h_least = omega (arith, u.image_h)

  pub carry_le : x / w ≤ 2 ^ 23
  carry_le = quotient_le (2 ^ 23) x w (position_le _ _ _ (extent_le u.range.image_x) (extent_le (chosen_in c.flip f.right f.left)) u.range.scale_w) w_least

  pub y_le : y ≤ 2 ^ 29
  y_le = omega (arith, carry_le, position_le (thirty_seconds bg.image_y) (quarters c.top) bg.scale_h.0 (extent_le u.range.image_y) (extent_le f.top) u.range.scale_h)

  pub wrapped_le : y / h * h ≤ 2 ^ 29
  wrapped_le = omega (arith, y_le, div-mul-le_self y h)

  pub start_in : StartIn bg (start_of bg c)
  unfolding start_of origin_of
  start_in = record {
    image_x = mod-lt x (omega (arith, w_least));
    image_x' = let m : x % w < w = mod-lt x (omega (arith, w_least)) in record { low = omega zarith; high = omega (zarith, extent_le u.range.image_w) };
    image_y = let m : y % h < h = mod-lt y (omega (arith, h_least)) in record { low = omega zarith; high = omega (zarith, extent_le u.range.image_h) };
    carry = carry_le;
    wrap = quotient_le (2 ^ 26) y h (omega (arith, y_le)) h_least;
    origin = origin_in bg.image_y_orig.0 (of_rows (x / w)) (y / h * h) u.range.image_y_orig (omega (arith, carry_le)) (omega (arith, wrapped_le));
  }
