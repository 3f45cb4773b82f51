-- An entry of a table of capacities, format by size. D is docs/SPECIFICATION.md.
-- Assumes nothing.
use Rattle.std.specs.Prelude.{◌≡◌, ℕ, ◌+◌, ◌*◌, ◌≤◌, ◌<◌}

-- D "A table of twenty entries, format by size": the place of an entry
pub record Place (fmt siz r : ℕ) : Type 0 where
  pub is : r ≡ fmt * 4 + siz
  pub below : r < 20

-- r is the capacity x, and at most the 512 words of texture memory
pub record Capacity (x r : ℕ) : Type 0 where
  pub is : r ≡ x
  pub most : r ≤ 512
