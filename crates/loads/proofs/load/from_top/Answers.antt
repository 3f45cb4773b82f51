-- The two sums are as the definition has them, and the part is at the second.
use Rattle.std.proofs.Common.{arith, refl, lit≤, ◌≡◌, ◌-ℤ◌, ℤ, to_z, of_z}
use Rattle.std.specs.Int.{w64}
use Rattle.signed.specs.Floor.{modulo}
use Rattle.loads.specs.Comes.{wider, difference_in, difference_fits, difference_is, less_in, plus_in}
use Rattle.measures.specs.Range.{Within}
use Rattle.loads.specs.declared.types.Place.{Place}
use Rattle.loads.specs.Sound.{SoundPass}
use Rattle.loads.specs.Kept.{remain_in}
use Rattle.loads.specs.Sums.{checked_sum}
use Rattle.loads.specs.Enter.{top_1, top_2, top_3, ended_as, reaches_as, none_ends}
use Rattle.loads.proofs.Read.{value, odd_low, remain_is, line_is, line_in}
use Rattle.loads.proofs.load.from_top.Goals as goal
use Rattle.loads.proofs.load.from_top.Goals.{After-rem_euclid-odd}

-- the rows from the top, and whether the image's last row is an odd one
rows_is : (p : Place) → SoundPass p → {lines : ℤ} → Within 44 lines → to_z w64 (of_z w64 (to_z w64 (of_z w64 lines) -ℤ to_z w64 (of_z w64 p.walk.source.remain))) ≡ lines -ℤ p.walk.source.remain
rows_is p h w = difference_is (lit≤ tt) w (wider 43 44 _ (lit≤ tt) (remain_in p.walk h.walk))

odd_is : (c : After-rem_euclid-odd) → c.rem_euclid-odd.result ≡ modulo c.args.p.walk.source.remain 2
odd_is c = rw (remain_is c.args.p c.requires.sound_pass) at c.rem_euclid-odd.ensures

pub overflow_sub-rows : goal.overflow_sub-rows
overflow_sub-rows c = difference_fits (lit≤ tt) c.requires.within (wider 43 44 _ (lit≤ tt) (remain_in c.args.p.walk c.requires.sound_pass.walk))

pub returns-in_err-first : goal.returns-in_err-first
returns-in_err-first c =
    let p = c.args.p in
    let none = c.in_err-first.ensures in
    let first = checked_sum p.scaled.address p.scaled.x_offset _ c.checked_add.ensures in
    rw (none_ends none.ok_part none.value c.from_residual.ensures.1) (ended_as _ (top_1 p c.args.lines c.requires.remain_value _ refl (rw none.ok_part at first)))

pub returns-in_err-pointer : goal.returns-in_err-pointer
returns-in_err-pointer c =
    let p = c.args.p in
    let odd = odd_is (goal.at.returns-in_err-pointer c).After-rem_euclid-odd in
    let none = c.in_err-pointer.ensures in
    let first = checked_sum p.scaled.address p.scaled.x_offset _ c.checked_add.ensures in
    rw (none_ends none.ok_part none.value c.from_residual-in_err-pointer.ensures.1)
    (ended_as _ (top_2 p c.args.lines c.requires.remain_value _ odd _ (rw c.in_ok-first.ensures.ok_part at first) (rw none.ok_part at c.back.ensures)))

pub back-requires : goal.back-requires
back-requires c = let odd = odd_is (goal.at.back-requires c).After-rem_euclid-odd in omega (arith, odd_low c.args.p.walk.source.remain)

pub less-requires : goal.less-requires
less-requires c =
    let h = c.requires.sound_pass in
    let odd = odd_is (goal.at.less-requires c).After-rem_euclid-odd in
    (rw (remain_is c.args.p h) (wider 43 61 _ (lit≤ tt) (remain_in c.args.p.walk h.walk)), omega (arith, odd_low c.args.p.walk.source.remain))

pub times-requires : goal.times-requires
times-requires c =
    let p = c.args.p in
    let h = c.requires.sound_pass in
    let odd = odd_is (goal.at.times-requires c).After-rem_euclid-odd in
    let even = value c.less.type_inv (rw (remain_is p h) at c.less.ensures) in
    (rw even (wider 44 45 _ (lit≤ tt) (less_in 43 _ c.rem_euclid-odd.result (remain_in p.walk h.walk) (omega (arith, odd_low p.walk.source.remain)))), omega (arith, h.scaled.line'))

pub plus-requires : goal.plus-requires
plus-requires c =
    let p = c.args.p in
    let h = c.requires.sound_pass in
    let at = goal.at.plus-requires c in
    let odd = odd_is at.After-rem_euclid-odd in
    (rw (rows_is p h c.requires.within) (wider 45 61 _ (lit≤ tt) (difference_in 44 _ _ c.requires.within (wider 43 44 _ (lit≤ tt) (remain_in p.walk h.walk)))), omega (arith, odd_low p.walk.source.remain))

pub enter-requires-clause-sound_part : goal.enter-requires-clause-sound_part
enter-requires-clause-sound_part c =
    let p = c.args.p in
    let h = c.requires.sound_pass in
    let at = goal.at.enter-requires-clause-sound_part c in
    let odd = odd_is at.After-rem_euclid-odd in
    let rows_in = difference_in 44 _ _ c.requires.within (wider 43 44 _ (lit≤ tt) (remain_in p.walk h.walk)) in
    let count = value c.plus.type_inv (rw (rows_is p h c.requires.within) at c.plus.ensures) in
    record { rows = rw count (wider 46 47 _ (lit≤ tt) (plus_in 45 _ c.rem_euclid-odd.result rows_in (omega (arith, odd_low p.walk.source.remain)))); width = rw (line_is p.scaled h.scaled) (wider 20 47 _ (lit≤ tt) (line_in p.scaled h.scaled)) }

pub returns : goal.returns
returns c =
    let p = c.args.p in
    let h = c.requires.sound_pass in
    let at = goal.at.returns c in
    let count = value c.plus.type_inv (rw (rows_is p h c.requires.within) at c.plus.ensures) in
    let even = value c.less.type_inv (rw (remain_is p h) at c.less.ensures) in
    let place = value c.times.type_inv (rw even at c.times.ensures) in
    let first = checked_sum p.scaled.address p.scaled.x_offset _ c.checked_add.ensures in
    reaches_as (top_3 p c.args.lines c.requires.remain_value _ (odd_is at.After-rem_euclid-odd) _ (rw c.in_ok-first.ensures.ok_part at first) _ (rw c.in_ok-pointer.ensures.ok_part at c.back.ensures))
    (omega arith) (rw (count, place, line_is p.scaled h.scaled) at c.enter.ensures)
