-- What the exported function leaves to the host: docs/SPECIFICATION.md, section 16.1.
-- Assumes nothing.
use Rattle.std.specs.Prelude.{cond, ◌&&◌, List, [], ◌∷◌, ℕ, eqb, length, get_or}
use Rattle.object.specs.declared.types.Scissor.{Scissor}
use Rattle.checks.specs.Check.{verdict_number}
use Rattle.request.specs.Host.{edges_in}
use Rattle.sample.specs.declared.types.Sample.{Sample}
use Rattle.sample.specs.declared.types.Sample.TheVariants.{Texel, Outside, Refused}
use Rattle.sample.specs.Engine.{sample_of}

-- an answer as three words
abbrev pub sample_words : Sample → List ℕ
sample_words (Texel column row) = 0 ∷ column ∷ row ∷ []
sample_words Outside = 1 ∷ 0 ∷ 0 ∷ []
sample_words (Refused v) = 2 ∷ verdict_number v ∷ 0 ∷ []

-- a host's four edges
abbrev pub scissor_of : List ℕ → Scissor
scissor_of ws = edges_in (get_or ws 0 0) (get_or ws 1 0) (get_or ws 2 0) (get_or ws 3 0)

-- the answer, and the words as the call leaves them
pub record CellLeft : Type 0 where
  pub answer : ℕ
  pub out : List ℕ

abbrev pub cell_left : ℕ → List ℕ → CellLeft
cell_left answer out = record { answer = answer; out = out }

-- what the cell shows, or 1 and nothing changed where scissor or out has another number of words
unfoldable pub host_sample : (object scissor : List ℕ) → (column line : ℕ) → (out : List ℕ) → CellLeft
host_sample object scissor column line out =
    cond (eqb (length scissor) 4 && eqb (length out) 3)
    (cell_left 0 (sample_words (sample_of 4 object (scissor_of scissor) column line)))
    (cell_left 1 out)
