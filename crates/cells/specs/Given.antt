-- What a copy plan gives for each place of its list: the five entries of a strip. proofs/Given.antt has that a plan which goes on to its end gives them, and that each strip fits.
-- Assumes nothing.
use Rattle.std.specs.Prelude.{List, [], ◌∷◌, ◌++◌, ◌+◌}
use Rattle.load_tile.specs.Load.{words_of, rows_of, stride_of, offset_of, length_of}
use Rattle.plan.specs.declared.types.Entry.{Entry}
use Rattle.plan.specs.declared.types.Entry.TheVariants as entry
use Rattle.plan.specs.Copy.{field}
use Rattle.copy.specs.declared.types.Place.{Place}
use Rattle.copy.specs.Walk.{tile_entry, tile0_entry, size_entry, area_of, rect_entry}

-- the load as it is granted
abbrev pub load_entry : Place → Entry
load_entry p =
    let c = p.copy in
    let a = area_of p in
    let words = words_of c.siz a.uls a.lrs in
    let rows = rows_of a.ult a.lrt in
    let stride = stride_of c.siz (field c) in
    entry.Load 7 a.uls a.ult a.lrs a.lrt words rows stride (c.address + offset_of c.siz stride a.uls a.ult) (length_of rows stride words)

abbrev pub five_of : Place → List Entry
five_of p = tile_entry p 7 0 0 ∷ tile0_entry p ∷ size_entry p ∷ load_entry p ∷ rect_entry p ∷ []

unfoldable pub entries_of : List Place → List Entry
entries_of [] = []
entries_of (p ∷ ps) = five_of p ++ entries_of ps
