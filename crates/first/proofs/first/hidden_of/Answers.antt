-- The strip starts at most its lines before the frame's first line, so the difference is not negative, and is read back.
use Rattle.std.proofs.Common.{◌≡◌, ◌+◌, ◌≤◌, ◌^◌, ◌∙◌, lit<, pos, ◌-ℤ◌, ◌*ℤ◌, SFits}
use Rattle.std.specs.Int.{w64}
use Rattle.signed.specs.Diff.{up, dn, zdiff, zparts, zarith, pos_abs}
use Rattle.signed.specs.Floor.{floor_div, parts}
use Rattle.signed.specs.Word.{rd, rk}
use Rattle.first.specs.First.{hidden_of}
use Rattle.first.proofs.first.hidden_of.Goals as goal

pub returns-clause-result_value : goal.returns-clause-result_value
unfolding hidden_of
returns-clause-result_value c =
    let p = parts c.args.start 1024 (lit< tt) in
    let h = simp zdiff at c.requires.start_le_offset.1 in
    let r : (dn (c.args.offset -ℤ floor_div c.args.start 1024 *ℤ pos 1024) ≡ 0) × (up (c.args.offset -ℤ floor_div c.args.start 1024 *ℤ pos 1024) ≤ 2 ^ 30 + 1024) = simp zdiff (simp zparts (omega zarith)) in
    let f : SFits w64 (c.args.offset -ℤ floor_div c.args.start 1024 *ℤ pos 1024) = omega zarith in
    let s = rk _ c.clear10.type_inv ∙ rw (rd c.ranges.start) at c.clear10.ensures in
    rw (rd c.ranges.offset, s, rd f) (pos_abs (c.args.offset -ℤ floor_div c.args.start 1024 *ℤ pos 1024) r.0)
