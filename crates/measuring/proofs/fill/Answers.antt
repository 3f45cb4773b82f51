-- Each rectangle's five words follow those that are in the buffer already.
use Rattle.std.proofs.Common.{arith, rules}
use Rattle.measuring.proofs.Filled.{going_start, going_more}
use Rattle.measuring.proofs.fill.Goals as goal

pub loop-drift-init : goal.loop-drift-init
loop-drift-init c = going_start c.args.r c.args.start c.args.drift.now c.place_of-place.result c.requires c.place_of-place.ensures.0 c.place_of-place.ensures.1

pub loop-drift-preserved-in-Some : goal.loop-drift-preserved-in-Some
loop-drift-preserved-in-Some c =
    let e = rw c.words_of-words.ensures at c.put.ensures in
    let h = going_more c.loop-drift.invariant c.in-Some.b c.in-Some.next c.in-Ok.rest c.put.new.to (rw c.in-Some.is at c.in-Ok.ensures) (omega (arith, c.loop-drift-test.true)) (search rules) in
    search rules
