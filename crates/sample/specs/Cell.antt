-- The engine by the numbers of a copy plan's frame, as the code has it. proofs/Cell.antt has that this is the engine.
-- Assumes nothing.
use Rattle.std.specs.Prelude.{cond, ◌&&◌, ℕ, ltb}
use Rattle.signed.specs.Floor.{modulo}
use Rattle.plan.specs.declared.types.Copy.{Copy}
use Rattle.plan.specs.Copy.{column, strip_row_of}
use Rattle.sample.specs.declared.types.Sample.{Sample}
use Rattle.sample.specs.declared.types.Sample.TheVariants.{Texel, Outside}

unfoldable pub cell_in : Copy → (i j : ℕ) → Sample
cell_in c i j = cond (ltb i c.width && ltb j c.height) (Texel (modulo (column c i) c.image_width) (strip_row_of c j)) Outside
