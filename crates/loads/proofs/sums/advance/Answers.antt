-- The test picks the definition's branch, and the sum's answer is the definition's.
use Rattle.std.proofs.Common.{rules, lit≤, ◌≡◌, pos, ◌+ℤ◌, ◌-ℤ◌, ◌*ℤ◌, to_z, of_z}
use Rattle.std.specs.Int.{w64}
use Rattle.loads.specs.Comes.{difference_in, difference_is, times_in, read_in}
use Rattle.loads.specs.Loads.{advance_by_on, advance_by_wrap}
use Rattle.loads.proofs.Read.{value}
use Rattle.loads.proofs.sums.advance.Goals as goal
use Rattle.loads.proofs.sums.advance.Goals.{After-times, After-times-2}

-- the bytes of the rows, and the bytes of the rows past the image's end
bytes_is : (c : After-times) → to_z w64 (of_z w64 c.times.result) ≡ c.args.rows *ℤ pos c.args.z.stride
bytes_is c = value c.times.type_inv (rw (read_in 44 _ (lit≤ tt) c.requires.within.1) at c.times.ensures)

past_is : (c : After-times-2) → to_z w64 (of_z w64 c.times-2.result) ≡ (c.args.rows -ℤ c.args.source.remain) *ℤ pos c.args.z.stride
past_is c =
    let w = c.requires.within in
    value c.times-2.type_inv (rw (difference_is (lit≤ tt) w.1 w.0) at c.times-2.ensures)

pub returns-in_err-pointer : goal.returns-in_err-pointer
returns-in_err-pointer c =
    let at = goal.at.returns-in_err-pointer c in
    rw c.from_residual.ensures (rw c.in_err-pointer.was at (advance_by_on c.args.z c.args.source c.args.rows _ c.source_address.result (difference_is (lit≤ tt) c.requires.within.0 c.requires.within.1) _ (bytes_is at.After-times) c.if-remain-gt0.true c.source_address.ensures))

pub returns-then-remain-gt0 : goal.returns-then-remain-gt0
returns-then-remain-gt0 c =
    let at = goal.at.returns-then-remain-gt0 c in
    rw c.in_ok-pointer.was at (advance_by_on c.args.z c.args.source c.args.rows _ c.source_address.result (difference_is (lit≤ tt) c.requires.within.0 c.requires.within.1) _ (bytes_is at.After-times) c.if-remain-gt0.true c.source_address.ensures)

pub plus-back-requires : goal.plus-back-requires
plus-back-requires c =
    let w = c.requires.within in
    (rw (past_is (goal.at.plus-back-requires c).After-times-2) (times_in 45 16 _ _ (difference_in 44 _ _ w.1 w.0) c.requires.sound_scaled.stride'), search rules)

pub returns-in_err-pointer-2 : goal.returns-in_err-pointer-2
returns-in_err-pointer-2 c =
    let at = goal.at.returns-in_err-pointer-2 c in
    let left = difference_is (lit≤ tt) c.requires.within.0 c.requires.within.1 in
    let back = value c.plus-back.type_inv (rw (past_is at.After-times-2) at c.plus-back.ensures) in
    rw c.from_residual-in_err-pointer-2.ensures
    (rw c.in_err-pointer-2.was at (advance_by_wrap c.args.z c.args.source c.args.rows _ c.source_address-2.result left _ (c.args.source.remain -ℤ c.args.rows +ℤ pos c.args.z.source_rows) back (rw left) c.if-remain-gt0.false c.source_address-2.ensures))

pub returns : goal.returns
returns c =
    let at = goal.at.returns c in
    let back = value c.plus-back.type_inv (rw (past_is at.After-times-2) at c.plus-back.ensures) in
    rw c.in_ok-pointer-2.was at (advance_by_wrap c.args.z c.args.source c.args.rows _ c.source_address-2.result (difference_is (lit≤ tt) c.requires.within.0 c.requires.within.1) _ _ back (value c.plus-remain.type_inv c.plus-remain.ensures) c.if-remain-gt0.false c.source_address-2.ensures)
