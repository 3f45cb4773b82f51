-- The origin's rows lie within the origin, so that the sums fit and are read back.
use Rattle.std.proofs.Common.{◌/◌, ◌<◌, ◌^◌, arith, lit<, pos, ◌+ℤ◌, SFits}
use Rattle.std.specs.Int.{w64}
use Rattle.signed.specs.Diff.{zdiff, zarith}
use Rattle.signed.specs.Floor.{floor_div, parts}
use Rattle.signed.specs.Word.{rd, rdn, rk}
use Rattle.first.specs.First.{image_row_of}
use Rattle.first.proofs.first.image_row.Goals as goal

pub returns : goal.returns
unfolding image_row_of
returns c =
    let p = parts c.args.origin.0 32 (lit< tt) in
    let s : SFits w64 (c.args.start +ℤ floor_div c.args.origin.0 32) = simp zdiff (omega zarith) in
    let t : SFits w64 (c.args.start +ℤ floor_div c.args.origin.0 32 +ℤ pos (c.args.hidden / 1024)) = simp zdiff (omega zarith) in
    let h : c.args.hidden / 1024 < 2 ^ 63 = omega arith in
    rw (rd c.ranges.start, rk c.whole_rows-top.result c.whole_rows-top.type_inv, c.whole_rows-top.ensures, rd s, c.whole.ensures, rdn (c.args.hidden / 1024) h, rd t) at c.rem_euclid.ensures
