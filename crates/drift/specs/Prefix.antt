-- The entries among answers; proofs/Prefix.antt has demand 3 of every prefix of a plan.
-- Assumes nothing.
use Rattle.std.specs.Prelude.{List, [], ◌∷◌, Ok, Err}
use Rattle.plan.specs.declared.types.Entry.{Entry}
use Rattle.plan.specs.Steps.{Answer}

-- the entries among answers
unfoldable pub entries_in : List Answer → List Entry
entries_in [] = []
entries_in (Ok x ∷ as') = x ∷ entries_in as'
entries_in (Err e ∷ as') = entries_in as'
