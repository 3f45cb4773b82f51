-- Entries that leave a bank whose numbers fit their fields.
-- Assumes nothing.
use Rattle.std.specs.Prelude.{List, [], ◌∷◌}
use Rattle.plan.specs.declared.types.Entry.{Entry}
use Rattle.plan.specs.Sound.{Narrow}

-- what a tile keeps of each fits the tile's fields
abbrev pub AllNarrow : List Entry → Type 0
AllNarrow [] = Unit {0}
AllNarrow (e ∷ es) = Narrow e × AllNarrow es
