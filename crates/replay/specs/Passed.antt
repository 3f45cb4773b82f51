-- What steps that are passed over leave of a planner.
-- Assumes nothing.
use Rattle.std.specs.Prelude.{◌≡◌, ℕ, take, drop}
use Rattle.plan.specs.Steps.{Coming}
use Rattle.banks.specs.Narrows.{AllNarrow}
use Rattle.planner.specs.Planner.{Planner}
use Rattle.planner.specs.Coming.{coming}

-- n entries of what was to come are given, the rest is to come
pub record Passed (n : ℕ) (k : Coming) (p : Planner) : Type 0 where
  pub rest : coming p ≡ record { entries = drop n k.entries; left = k.left; end = k.end }
  pub narrow : AllNarrow (take n k.entries)
