-- Where only the tile is left, nothing comes of the rows before the last; the other choices have their functions.
use Rattle.loads.specs.declared.types.Choice.TheVariants as choice
use Rattle.loads.specs.Enter.{rest_none, chose_reaches}
use Rattle.loads.proofs.load.after_part.Goals as goal

pub returns-in-Last : goal.returns-in-Last
returns-in-Last c =
    let p = c.args.p in
    let h = rw c.in-Last.is at c.chosen.ensures in
    chose_reaches p choice.Last h (rest_none p c.requires h.meets)
