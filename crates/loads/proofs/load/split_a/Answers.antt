-- The part is the definition's: the first of the image's last row.
use Rattle.std.proofs.Common.{arith, lit≤}
use Rattle.loads.specs.Comes.{read_in}
use Rattle.loads.specs.Kept.{remain_in}
use Rattle.loads.specs.Enter.{split_a_is, reaches_as}
use Rattle.loads.proofs.Read.{one_more}
use Rattle.loads.proofs.load.split_a.Goals as goal

pub split-s-requires-clause-within : goal.split-s-requires-clause-within
split-s-requires-clause-within c = remain_in c.args.p.walk c.requires.walk

pub returns : goal.returns
returns c =
    let r = c.split-s.ensures in
    reaches_as (split_a_is c.args.p) (omega arith)
    (rw (one_more c.split-s.result.odd r.odd', read_in 61 _ (lit≤ tt) r.from', read_in 20 _ (lit≤ tt) r.width', r.odd, r.from, r.width) at c.enter.ensures)
