-- What callers may count on of the definitions, which stay shut to them. D is docs/SPECIFICATION.md, section 5.
-- Assumes nothing.
use Rattle.std.specs.Prelude.{◌≡◌, ◌≢◌, ℕ, ◌+◌, ◌-◌, ◌/◌, max, ℤ, pos, negsuc, ◌+ℤ◌, ◌-ℤ◌, get_or}
use Rattle.std.proofs.Common.{ap, ◌∙◌, arith, get_or-set_other}
use Rattle.signed.specs.Diff.{up, zdiff, zparts, zarith}
use Rattle.signed.specs.Floor.{floor_div}
use Rattle.tile.specs.declared.bank.Tile.{Tile}
use Rattle.tile.specs.declared.bank.Bank.{Bank}
use Rattle.tile.specs.Bank.{blank, extent, set_tile, set_size}

-- D "the other seven tiles are unchanged"
pub other_tile : (b : Bank) (i j : ℕ) (t : Tile) → j ≢ i → get_or (set_tile b i t).tiles j blank ≡ get_or b.tiles j blank
unfolding set_tile
other_tile b i j t h = get_or-set_other b.tiles i j _ blank h

pub other_size : (b : Bank) (i j uls ult lrs lrt : ℕ) → j ≢ i → get_or (set_size b i uls ult lrs lrt).tiles j blank ≡ get_or b.tiles j blank
unfolding set_size
other_size b i j uls ult lrs lrt h = get_or-set_other b.tiles i j _ blank h

extent_from : (z : ℤ) → max 1 (up (floor_div z 4 +ℤ pos 1)) ≡ up z / 4 + 1
extent_from (pos n) = omega arith
extent_from (negsuc n) = ap (max 1) (one_less (n / 4))
  where
    one_less : (k : ℕ) → up (negsuc k +ℤ pos 1) ≡ 0
    one_less k = simp zdiff (simp zparts (omega zarith))

-- a width or a height without integers
pub extent_is : (low high : ℕ) → extent low high ≡ (high - low) / 4 + 1
unfolding extent
extent_is low high = extent_from (pos high -ℤ pos low) ∙ ap (λ (n : ℕ). n / 4 + 1) (cut low high)
  where
    cut : (low high : ℕ) → up (pos high -ℤ pos low) ≡ high - low
    cut low high = simp zdiff (simp zparts (omega zarith))
