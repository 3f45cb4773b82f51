-- The whole load is the definition's branch, and the test picks the law.
use Rattle.std.proofs.Common.{sym, ◌∙◌}
use Rattle.loads.specs.Enter.{whole_refused, whole_given}
use Rattle.loads.proofs.load.whole.Goals as goal

pub returns-then-part_bad : goal.returns-then-part_bad
returns-then-part_bad c =
    let w = c.whole_part-part.ensures in
    let e = rw w.0 at c.part_bad.ensures in
    whole_refused c.args.p c.requires.sound_pass c.requires.meets (sym e ∙ c.if-part_bad.true)

pub returns : goal.returns
returns c =
    let w = c.whole_part-part.ensures in
    let e = rw w.0 at c.part_bad.ensures in
    whole_given c.args.p c.requires.sound_pass c.requires.meets (sym e ∙ c.if-part_bad.false)
