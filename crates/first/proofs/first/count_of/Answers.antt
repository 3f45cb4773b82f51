-- The mask's remainder is below 1,024, so that the sums fit and are read back.
use Rattle.std.proofs.Common.{◌<◌, ◌^◌, arith, lit<, pos, ◌+ℤ◌, ◌-ℤ◌, SFits}
use Rattle.std.specs.Int.{w64}
use Rattle.signed.specs.Diff.{zdiff, zarith}
use Rattle.signed.specs.Floor.{modulo, modulo_lt}
use Rattle.signed.specs.Word.{rd, rdn}
use Rattle.first.specs.First.{count_of}
use Rattle.first.proofs.first.count_of.Goals as goal

pub returns : goal.returns
unfolding count_of
returns c =
    let l : modulo c.args.start 1024 < 1024 = modulo_lt c.args.start (lit< tt) in
    let m : modulo c.args.start 1024 < 2 ^ 63 = omega arith in
    let f : c.args.frame_rows < 2 ^ 63 = omega arith in
    let h : c.args.hidden < 2 ^ 63 = omega arith in
    let s : SFits w64 (pos (modulo c.args.start 1024) +ℤ pos c.args.frame_rows) = omega zarith in
    let d : SFits w64 (pos (modulo c.args.start 1024) +ℤ pos c.args.frame_rows -ℤ pos c.args.hidden) = simp zdiff (omega zarith) in
    let e = rw (rd c.ranges.start) at c.signed_low10.ensures in
    rw (e, rdn (modulo c.args.start 1024) m, rdn c.args.frame_rows f, rd s, rdn c.args.hidden h, rd d)
