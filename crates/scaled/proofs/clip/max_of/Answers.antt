-- What the image gives at the scale is bounded, so that less one of it is read back as it is.
use Rattle.std.proofs.Common.{◌*◌, ◌≤◌, pos, ◌-ℤ◌, arith, div-le_self, SFits}
use Rattle.std.specs.Int.{w64}
use Rattle.signed.specs.Diff.{zdiff, zarith}
use Rattle.signed.specs.Word.{rd, rk}
use Rattle.measures.specs.Measure.{quarters, shown_at}
use Rattle.scaled.specs.Clip.{greatest}
use Rattle.scaled.specs.Range.{extent_le}
use Rattle.scaled.proofs.clip.max_of.Goals as goal

pub returns-clause-value : goal.returns-clause-value
unfolding greatest
returns-clause-value c =
    let l : shown_at (quarters c.args.image) c.args.scale.0 ≤ 65535 * 1024 = omega (arith, div-le_self (quarters c.args.image * 1024) c.args.scale.0, extent_le c.requires.0) in
    let s : SFits w64 (pos (shown_at (quarters c.args.image) c.args.scale.0)) = omega zarith in
    let d : SFits w64 (pos (shown_at (quarters c.args.image) c.args.scale.0) -ℤ pos 1) = simp zdiff (omega zarith) in
    let e = rw (c.shown_at-shown.ensures, rd s, rd d) at c.clear2.ensures in
    rw (rk _ c.clear2.type_inv, e)
