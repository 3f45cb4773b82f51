-- The load into tile 7 as an entry, where its request is granted. D is docs/SPECIFICATION.md, section 6.
-- Assumes nothing.
use Rattle.std.specs.Prelude.{Result, Ok, Err, Option, Some, None}
use Rattle.tile.specs.declared.bank.Bounds.{Bounds}
use Rattle.load_tile.specs.declared.load.LoadRequest.{LoadRequest}
use Rattle.plan.specs.declared.types.Entry.{Entry}
use Rattle.plan.specs.declared.types.Entry.TheVariants.{Size, Load}

-- the load's entry; else the size that it has set, D verdict 9 "a load refused by 9 has already set tile 7's size"
abbrev pub answer_of : Option LoadRequest → Bounds → Result Entry Entry
answer_of (Some r) b = Ok (Load 7 b.uls b.ult b.lrs b.lrt r.words r.rows r.stride r.start r.length)
answer_of None b = Err (Size 7 b.uls b.ult b.lrs b.lrt)
