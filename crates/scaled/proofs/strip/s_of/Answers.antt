-- Each way reads back the numbers, which are not negative.
use Rattle.std.proofs.Common.{◌≡◌, ap, pos, ◌+ℤ◌, ◌-ℤ◌, SFits}
use Rattle.std.specs.Int.{w64}
use Rattle.signed.specs.Diff.{ge_dn, zdiff, zarith}
use Rattle.signed.specs.Word.{rd}
use Rattle.measures.specs.Measure.{thirty_seconds, in_thirty_seconds}
use Rattle.measures.specs.Range.{counted}
use Rattle.scaled.specs.Strip.{s_of}
use Rattle.scaled.proofs.strip.s_of.Goals as goal

pub returns-then-flip : goal.returns-then-flip
unfolding s_of
returns-then-flip c =
    let k : SFits w64 c.args.column.0 = omega zarith in
    let w : SFits w64 c.args.image_width.0 = omega zarith in
    let s : SFits w64 (c.args.column.0 +ℤ c.args.image_width.0) = simp zdiff (omega zarith) in
    let m : SFits w64 (pos 0 -ℤ (c.args.column.0 +ℤ c.args.image_width.0)) = simp zdiff (omega zarith) in
    let d = ge_dn c.args.column.0 0 c.requires.0.low in
    let e = ge_dn c.args.image_width.0 0 c.requires.1.low in
    let g : pos 0 -ℤ (c.args.column.0 +ℤ c.args.image_width.0) ≡ s_of c.args.flip (thirty_seconds c.args.column) (thirty_seconds c.args.image_width) = rw c.if-flip.true (simp zdiff (omega zarith)) in
    rw (rd k, rd w, rd s, rd m) (ap in_thirty_seconds g)

pub returns-else-flip : goal.returns-else-flip
unfolding s_of
returns-else-flip c = rw (c.if-flip.false, counted c.requires.0.low)
