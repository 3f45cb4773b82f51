-- What the entries of a copy plan show at the cells of its frame, beside what an engine answers there: 16.4 of docs/SPECIFICATION.md, which is D.
-- Assumes nothing.
use Rattle.std.specs.Prelude.{◌≡◌, ◌⊎◌, Option, Some, None, List, [], ◌∷◌, ℕ, ◌+◌, ◌≤◌, ◌<◌}
use Rattle.measures.specs.Measure.{quarters, of_texels}
use Rattle.plan.specs.declared.types.Copy.{Copy}
use Rattle.plan.specs.declared.types.Entry.{Entry}
use Rattle.cells.specs.Shown.{Look, looks_at, FromLoad, Claimed}
use Rattle.sample.specs.declared.types.Sample.{Sample}
use Rattle.sample.specs.declared.types.Sample.TheVariants.{Texel, Outside}

-- what the rectangles that meet cell (i, j) show there
abbrev pub looks_in : Copy → (i j : ℕ) → List Entry → List (Option Look)
looks_in c i j es = looks_at 4 (quarters c.left + of_texels i) (quarters c.top + of_texels j) None es

-- D "each cell gets the same column and row from its rectangle and load as from this engine": one rectangle meets the cell, a load stands before it, and that load has the texel
pub record CellShown (c : Copy) (es : List Entry) (i j : ℕ) (answer : Sample) : Type 0 where
  pub look : Look
  pub is : looks_in c i j es ≡ Some look ∷ []
  pub loaded : Claimed c look → FromLoad look
  pub agrees : Claimed c look → answer ≡ Texel look.column look.row

-- right of the frame or below it no rectangle meets a cell of the same grid, and D "A cell outside the clipped frame is answered as outside"
pub record CellBeyond (c : Copy) (es : List Entry) (i j : ℕ) (answer : Sample) : Type 0 where
  pub is : looks_in c i j es ≡ []
  pub agrees : answer ≡ Outside

pub record Shows (c : Copy) (engine : (i j : ℕ) → Sample) (es : List Entry) : Type 0 where
  pub cells : (i j : ℕ) → i < c.width → j < c.height → CellShown c es i j (engine i j)
  pub beyond : (i j : ℕ) → c.width ≤ i ⊎ c.height ≤ j → CellBeyond c es i j (engine i j)
