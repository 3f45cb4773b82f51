-- The two tests pick the law.
use Rattle.std.proofs.Common.{lit≤, pos, ◌+ℤ◌, ◌-ℤ◌}
use Rattle.measures.specs.Range.{Within}
use Rattle.loads.specs.declared.types.Place.{Place}
use Rattle.loads.specs.Sound.{SoundPass}
use Rattle.loads.specs.Comes.{wider, read_in, difference_in, fits}
use Rattle.loads.specs.Kept.{remain_in}
use Rattle.loads.specs.Loads.{positive, none_left}
use Rattle.loads.specs.Enter.{chose_whole, chose_top, chose_under}
use Rattle.loads.proofs.Read.{remain_is, left_asks, left_is, load_is, load_in}
use Rattle.loads.proofs.load.at_start.Goals as goal

-- the rows of the load past those that are left
over_in : (p : Place) → SoundPass p → Within 45 (p.rows +ℤ pos p.scaled.bilerp -ℤ p.walk.source.remain)
over_in p h = difference_in 44 _ _ (load_in p h) (wider 43 44 _ (lit≤ tt) (remain_in p.walk h.walk))

pub less-requires : goal.less-requires
less-requires c = left_asks c.args.p c.requires

pub overflow_sub-load_rows : goal.overflow_sub-load_rows
overflow_sub-load_rows c =
    let p = c.args.p in
    let h = c.requires in
    rw (load_is p h c.plus-load_rows.type_inv c.plus-load_rows.ensures, remain_is p h) (fits 45 _ (lit≤ tt) (over_in p h))

pub returns-then-load_rows-less : goal.returns-then-load_rows-less
returns-then-load_rows-less c =
    let p = c.args.p in
    let h = c.requires in
    let load = load_is p h c.plus-load_rows.type_inv c.plus-load_rows.ensures in
    chose_whole p (rw (load, left_is p h c.less.type_inv c.less.ensures) at c.if-load_rows-less.true)

pub returns-then-load_rows-remain-le0 : goal.returns-then-load_rows-remain-le0
returns-then-load_rows-remain-le0 c =
    let p = c.args.p in
    let h = c.requires in
    let load = load_is p h c.plus-load_rows.type_inv c.plus-load_rows.ensures in
    chose_under p c.after_top.result (rw (load, left_is p h c.less.type_inv c.less.ensures) at c.if-load_rows-less.false) (none_left (p.rows +ℤ pos p.scaled.bilerp -ℤ p.walk.source.remain) (rw (load, remain_is p h, read_in 45 _ (lit≤ tt) (over_in p h)) at c.if-load_rows-remain-le0.true)) c.after_top.ensures

pub returns-else-load_rows-remain-le0 : goal.returns-else-load_rows-remain-le0
returns-else-load_rows-remain-le0 c =
    let p = c.args.p in
    let h = c.requires in
    let load = load_is p h c.plus-load_rows.type_inv c.plus-load_rows.ensures in
    chose_top p (rw (load, left_is p h c.less.type_inv c.less.ensures) at c.if-load_rows-less.false, positive (p.rows +ℤ pos p.scaled.bilerp -ℤ p.walk.source.remain) (rw (load, remain_is p h, read_in 45 _ (lit≤ tt) (over_in p h)) at c.if-load_rows-remain-le0.false))
