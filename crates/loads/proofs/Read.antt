-- What the row counts of a sound pass read as in a word, and the ranges of the sums made of them.
-- Assumes nothing.
use Rattle.std.specs.Prelude.{◌≡◌, ◌+◌, ◌≤◌, ◌<◌, ◌^◌, ℕ, ℤ, pos, ◌+ℤ◌, ◌-ℤ◌}
use Rattle.std.specs.Int.{w64}
use Rattle.std.specs.Int.Signed.{mag}
use Rattle.std.proofs.Common.{◌∙◌, arith, lit<, lit≤, to_z, of_z}
use mir.Val.{SFits}
use Rattle.signed.specs.Diff.{zarith}
use Rattle.signed.specs.Floor.{modulo, modulo_lt}
use Rattle.signed.specs.Word.{rd, rdn, rk}
use Rattle.measures.specs.Range.{Within}
use Rattle.plan.specs.declared.types.Scaled.{Scaled}
use Rattle.plan.specs.declared.types.Source.{Source}
use Rattle.plan.specs.Sound.{SoundScaled}
use Rattle.loads.specs.declared.types.Place.{Place}
use Rattle.loads.specs.Coming.{loadable_of}
use Rattle.loads.specs.Comes.{wider, read_in, plus_in, less_in}
use Rattle.loads.specs.Kept.{remain_in, rows_in}
use Rattle.loads.specs.Sound.{SoundPass}

-- a call's result, with the value that its contract gives it
pub value : {r x : ℤ} → mag r < 2 ^ 63 → r ≡ x → to_z w64 (of_z w64 r) ≡ x
value {r} f e = rk r f ∙ e

-- the rows of the image's last row: one, or two where it is an odd one
pub one_more : (n : ℕ) → n ≤ 1 → to_z w64 (of_z w64 (to_z w64 n +ℤ pos 1)) ≡ pos (n + 1)
one_more n h = let f : SFits w64 (pos (n + 1)) = omega zarith in rw (rdn n (omega arith)) (rd f)

pub few : (n : ℕ) → n ≤ 1 → Within 47 (pos (n + 1))
few n h = record { low = omega zarith; high = omega zarith }

pub odd_low : (v : ℤ) → modulo v 2 ≤ 1
odd_low v = let h = modulo_lt v {m = 2} (lit< tt) in omega arith

module _ (p : Place) (h : SoundPass p) where
  pub rows_is : to_z w64 (of_z w64 p.rows) ≡ p.rows
  rows_is = read_in 43 p.rows (lit≤ tt) (rows_in p h)

  pub remain_is : to_z w64 (of_z w64 p.walk.source.remain) ≡ p.walk.source.remain
  remain_is = read_in 43 p.walk.source.remain (lit≤ tt) (remain_in p.walk h.walk)

  -- the rows before the image's last, less what runs over: what the call asks, and its result
  pub left_asks : Within 61 (to_z w64 (of_z w64 p.walk.source.remain)) × (p.scaled.split ≤ 2 ^ 40)
  left_asks = let s = h.scaled in (rw remain_is (wider 43 61 _ (lit≤ tt) (remain_in p.walk h.walk)), omega (arith, s.split))

  pub left_is : {r : ℤ} → mag r < 2 ^ 63 → r ≡ to_z w64 (of_z w64 p.walk.source.remain) -ℤ pos p.scaled.split → to_z w64 (of_z w64 r) ≡ loadable_of p.scaled p.walk.source
  left_is f e = value f (rw remain_is at e)

  -- the rows of a pass's load
  pub load_is : {r : ℤ} → mag r < 2 ^ 63 → r ≡ to_z w64 (of_z w64 p.rows) +ℤ pos p.scaled.bilerp → to_z w64 (of_z w64 r) ≡ p.rows +ℤ pos p.scaled.bilerp
  load_is f e = value f (rw rows_is at e)

  pub load_in : Within 44 (p.rows +ℤ pos p.scaled.bilerp)
  load_in = let s = h.scaled in plus_in 43 p.rows p.scaled.bilerp (rows_in p h) (omega (arith, s.bilerp))

module _ (z : Scaled) (h : SoundScaled z) where
  pub line_is : to_z w64 z.line ≡ pos z.line
  line_is = rdn z.line (omega (arith, h.line'))

  pub offset_is : to_z w64 z.x_offset ≡ pos z.x_offset
  offset_is = rdn z.x_offset (omega (arith, h.x_offset))

  pub line_in : Within 20 (pos z.line)
  line_in = let l = h.line' in record { low = omega zarith; high = omega zarith }

  -- the rows before the image's last
  pub loadable_in : (source : Source) → Within 43 source.remain → Within 44 (loadable_of z source)
  loadable_in source w = less_in 43 source.remain z.split w (omega (arith, h.split))
