-- The request: what a planner is made from.
-- Assumes nothing.
use Rattle.std.specs.Prelude.{List, ℕ}
use Rattle.object.specs.declared.types.Scissor.{Scissor}

-- docs/SPECIFICATION.md, section 2: the object's bytes, the opcode, the scissor, the render mode, the resolved image address
pub record Request : Type 0 where
  pub bytes : List ℕ
  pub opcode : ℕ
  pub scissor : Scissor
  pub mode : ℕ
  pub address : ℕ
