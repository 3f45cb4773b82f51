-- The three sums are as the definition has them, and the parts are at their pointers.
use Rattle.std.proofs.Common.{arith, lit≤, ◌≡◌, ◌*ℤ◌, pos, to_z, of_z}
use Rattle.std.specs.Int.{w64}
use Rattle.loads.specs.Coming.{loadable_of}
use Rattle.loads.specs.Comes.{wider}
use Rattle.loads.specs.Kept.{remain_in}
use Rattle.loads.specs.Enter.{split_1, split_2, split_3, split_4, ended_as, reaches_as, none_ends}
use Rattle.loads.proofs.Read.{value, left_asks, left_is, loadable_in}
use Rattle.loads.proofs.load.split_row.Goals as goal
use Rattle.loads.proofs.load.split_row.Goals.{After-times}

-- the bytes of the rows before the image's last
bytes_is : (c : After-times) → to_z w64 (of_z w64 c.times.result) ≡ loadable_of c.args.p.scaled c.args.p.walk.source *ℤ pos c.args.p.scaled.stride
bytes_is c =
    let left = left_is c.args.p c.requires.sound_pass c.less-loadable.type_inv c.less-loadable.ensures in
    value c.times.type_inv (rw left at c.times.ensures)

pub split-s-requires-clause-within : goal.split-s-requires-clause-within
split-s-requires-clause-within c = remain_in c.args.p.walk c.requires.sound_pass.walk

pub less-loadable-requires : goal.less-loadable-requires
less-loadable-requires c = left_asks c.args.p c.requires.sound_pass

pub times-requires : goal.times-requires
times-requires c =
    let p = c.args.p in
    let h = c.requires.sound_pass in
    let left = left_is p h c.less-loadable.type_inv c.less-loadable.ensures in
    (rw left (wider 44 45 _ (lit≤ tt) (loadable_in p.scaled h.scaled p.walk.source (remain_in p.walk h.walk))), h.scaled.stride')

pub returns-in_err-p1 : goal.returns-in_err-p1
returns-in_err-p1 c =
    let none = c.in_err-p1.ensures in
    let bytes = bytes_is (goal.at.returns-in_err-p1 c).After-times in
    rw (none_ends none.ok_part none.value c.from_residual.ensures.1) (ended_as _ (split_1 c.args.p c.requires.meets _ bytes _ c.split-s.ensures.odd (rw none.ok_part at c.source_address.ensures)))

pub returns-in_err-p1a : goal.returns-in_err-p1a
returns-in_err-p1a c =
    let none = c.in_err-p1a.ensures in
    let bytes = bytes_is (goal.at.returns-in_err-p1a c).After-times in
    rw (none_ends none.ok_part none.value c.from_residual-in_err-p1a.ensures.1)
    (ended_as _ (split_2 c.args.p c.requires.meets _ bytes _ c.split-s.ensures.odd _ (rw c.in_ok-p1.ensures.ok_part at c.source_address.ensures) (rw none.ok_part at c.back.ensures)))

pub returns-in_err-p1b : goal.returns-in_err-p1b
returns-in_err-p1b c =
    let none = c.in_err-p1b.ensures in
    let bytes = bytes_is (goal.at.returns-in_err-p1b c).After-times in
    rw (none_ends none.ok_part none.value c.from_residual-in_err-p1b.ensures.1)
    (ended_as _ (split_3 c.args.p c.requires.meets _ bytes _ c.split-s.ensures.odd _ (rw c.in_ok-p1.ensures.ok_part at c.source_address.ensures) _ (rw c.in_ok-p1a.ensures.ok_part at c.back.ensures) (rw none.ok_part at c.back-2.ensures)))

pub returns : goal.returns
returns c =
    let bytes = bytes_is (goal.at.returns c).After-times in
    reaches_as (split_4 c.args.p c.requires.meets _ bytes _ c.split-s.ensures.odd _ (rw c.in_ok-p1.ensures.ok_part at c.source_address.ensures) _ (rw c.in_ok-p1a.ensures.ok_part at c.back.ensures) _ (rw c.in_ok-p1b.ensures.ok_part at c.back-2.ensures)) (omega arith) c.split_b.ensures
