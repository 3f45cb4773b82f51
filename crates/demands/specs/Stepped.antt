-- The words that any number of calls of `visor_step` answer, one after another. proofs/Stepped.antt has demands 2 and 3 of them.
-- Assumes nothing.
use Rattle.std.specs.Prelude.{List, [], ◌∷◌, ◌++◌, ℕ}

-- ---- entries are read back from the answers' words, one answer after another

abbrev pub joined : List (List ℕ) → List ℕ
joined [] = []
joined (out ∷ outs) = out ++ joined outs
