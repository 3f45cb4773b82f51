-- Words set where a test is true; proofs/Over.antt has the laws of words set twice.
-- Assumes nothing.
use Rattle.std.specs.Prelude.{Bool, cond, List, ℕ}
use Rattle.std.proofs.lemmas.List.Edits.{sets}

-- words set where a test is true
abbrev pub set_to : Bool → List ℕ → ℕ → List ℕ → List ℕ
set_to t ws a xs = cond t (sets ws a xs) ws
