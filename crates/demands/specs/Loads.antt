-- A plan's loads after a setting of tile 7, and tile words by the bank at each load. proofs/Loads.antt has that both hold of every plan. D is docs/SPECIFICATION.md, section 10.
-- Assumes nothing.
use Rattle.std.specs.Prelude.{◌≡◌, Bool, true, ◌||◌, List, [], ◌∷◌, ℕ, ◌*◌, max, eqb, get_or}
use Rattle.tile.specs.declared.bank.Bank.{Bank}
use Rattle.tile.specs.Bank.{blank}
use Rattle.plan.specs.declared.types.Entry.{Entry}
use Rattle.plan.specs.declared.types.Entry.TheVariants as entry
use Rattle.plan.specs.Copy.{rows}
use Rattle.plan.specs.Run.{bank_step}

-- each load stands after a setting of tile 7; `done` says that there was one before the list
abbrev pub LoadsAfter : (done : Bool) → List Entry → Type 0
LoadsAfter done [] = Unit {0}
LoadsAfter done (entry.Image fmt siz width address ∷ es) = LoadsAfter done es
LoadsAfter done (entry.Tile i fmt siz line tmem palette cms cmt masks maskt ∷ es) = LoadsAfter (eqb i 7 || done) es
LoadsAfter done (entry.Size i uls ult lrs lrt ∷ es) = LoadsAfter done es
LoadsAfter done (entry.Load i uls ult lrs lrt words rows stride start len ∷ es) = (done ≡ true) × LoadsAfter done es
LoadsAfter done (entry.Rect i ulx uly lrx lry uls ult dsdx dtdy row ∷ es) = LoadsAfter done es

-- D "the largest rows × line of any single load given, 0 if none; .. line is tile 7's at that load", by the bank itself
unfoldable pub words_in : Bank → List Entry → ℕ
words_in b [] = 0
words_in b (entry.Image fmt siz width address ∷ es) = words_in (bank_step b (entry.Image fmt siz width address)) es
words_in b (entry.Tile i fmt siz line tmem palette cms cmt masks maskt ∷ es) = words_in (bank_step b (entry.Tile i fmt siz line tmem palette cms cmt masks maskt)) es
words_in b (entry.Size i uls ult lrs lrt ∷ es) = words_in (bank_step b (entry.Size i uls ult lrs lrt)) es
words_in b (entry.Load i uls ult lrs lrt words rows stride start len ∷ es) = max (rows * (get_or b.tiles 7 blank).line) (words_in (bank_step b (entry.Load i uls ult lrs lrt words rows stride start len)) es)
words_in b (entry.Rect i ulx uly lrx lry uls ult dsdx dtdy row ∷ es) = words_in (bank_step b (entry.Rect i ulx uly lrx lry uls ult dsdx dtdy row)) es
