-- The test picks the law.
use Rattle.loads.specs.Loads.{positive, none_left}
use Rattle.loads.specs.Enter.{chose_rest, chose_last}
use Rattle.loads.specs.Coming.{loadable_of}
use Rattle.loads.proofs.Read.{left_asks, left_is}
use Rattle.loads.proofs.load.after_split.Goals as goal

pub less-requires : goal.less-requires
less-requires c = left_asks c.args.p c.requires

pub returns-then-less-le0 : goal.returns-then-less-le0
returns-then-less-le0 c =
    let p = c.args.p in
    let left = left_is p c.requires c.less.type_inv c.less.ensures in
    chose_last p (none_left (loadable_of p.scaled p.walk.source) (rw left at c.if-less-le0.true))

pub returns-else-less-le0 : goal.returns-else-less-le0
returns-else-less-le0 c =
    let p = c.args.p in
    let left = left_is p c.requires c.less.type_inv c.less.ensures in
    chose_rest p (positive (loadable_of p.scaled p.walk.source) (rw left at c.if-less-le0.false))
