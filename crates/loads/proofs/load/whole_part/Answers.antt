-- The literal is the definition's, and its rows and its line are few.
use Rattle.std.proofs.Common.{refl, lit≤}
use Rattle.loads.specs.Comes.{wider}
use Rattle.loads.proofs.Read.{load_is, load_in, line_is, line_in}
use Rattle.loads.proofs.load.whole_part.Goals as goal

pub returns : goal.returns
returns c =
    let p = c.args.p in
    let load = load_is p c.requires c.plus.type_inv c.plus.ensures in
    rw (load, line_is p.scaled c.requires.scaled)
    (refl, record { rows = wider 44 47 _ (lit≤ tt) (load_in p c.requires); width = wider 20 47 _ (lit≤ tt) (line_in p.scaled c.requires.scaled) })
