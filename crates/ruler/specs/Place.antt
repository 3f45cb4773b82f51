-- A place's numbers, and what is known of every place. Assumes nothing.
use Rattle.std.specs.Prelude.{ℕ, ◌+◌, ◌*◌, ◌-◌, ◌^◌, ◌≤◌, ℤ, pos, neg_ℤ, ◌+ℤ◌, ◌≤ℤ◌}

-- the passes left at the most, the strip's number, the frame's lines left, the strip's in 1,024ths, and the lines of earlier rectangles
pub record Place : Type 0 where
  pub fuel : ℕ
  pub k : ℤ
  pub left : ℕ
  pub count : ℕ
  pub earlier : ℕ

abbrev pub place_at : (fuel : ℕ) → (k : ℤ) → (left count earlier : ℕ) → Place
place_at fuel k left count earlier = record { fuel = fuel; k = k; left = left; count = count; earlier = earlier }

-- what holds of every place in memory: no sum of a pass overflows, if no rectangle has more than 16,383 lines
pub record InPlace (p : Place) : Type 0 where
  pub fuel : p.fuel ≤ 66495
  pub low : neg_ℤ (pos (2 ^ 46)) ≤ℤ p.k
  pub high : (p.k +ℤ pos p.fuel) ≤ℤ pos (2 ^ 46 - 1)
  pub count : p.count ≤ 2 ^ 30
  pub earlier : p.earlier + 16384 * p.fuel ≤ 2 ^ 31
