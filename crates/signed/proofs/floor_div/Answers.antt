-- Below 0 the divisor less one is taken away first; each step in between reads back as the integer that it is.
use Rattle.std.proofs.Common.{◌<◌, ◌^◌, pos, ◌-ℤ◌, ◌≤ℤ◌}
use Rattle.std.specs.Int.{w64}
use mir.Val.{SFits}
use Rattle.signed.specs.Diff.{zdiff, zarith}
use Rattle.signed.specs.Floor.{quot_below}
use Rattle.signed.specs.Word.{rd, rdn, quot_fits}
use Rattle.signed.proofs.floor_div.Goals as goal

pub returns-then-a-lt0 : goal.returns-then-a-lt0
returns-then-a-lt0 c =
    let b : c.args.b < 2 ^ 63 = omega zarith in
    let one : pos 1 ≤ℤ pos c.args.b = omega zarith in
    let less : SFits w64 (pos c.args.b -ℤ pos 1) = simp zdiff (omega zarith) in
    let sum : SFits w64 (c.args.a -ℤ (pos c.args.b -ℤ pos 1)) = simp zdiff (omega zarith) in
    let below = rw (rd c.ranges.a) at c.if-a-lt0.true in
    rw (rdn c.args.b b, rd less, rd c.ranges.a, rd sum, rd (quot_fits w64 _ _ one sum))
    (quot_below c.args.a (pos c.args.b) one (omega zarith))
