-- The test picks the law.
use Rattle.std.proofs.Common.{sym, ◌∙◌}
use Rattle.loads.specs.Enter.{enter_refused, enter_given}
use Rattle.loads.proofs.Read.{rows_is}
use Rattle.loads.proofs.load.enter.Goals as goal

pub returns-then-part_bad : goal.returns-then-part_bad
returns-then-part_bad c =
    let a = c.args in
    enter_refused a.k a.p a.part.pointer a.part.rows a.part.destination a.part.width c.requires.sound_pass c.requires.sound_part.rows c.requires.sound_part.width (sym c.part_bad.ensures ∙ c.if-part_bad.true)

pub returns : goal.returns
returns c =
    let a = c.args in
    rw (rows_is a.p c.requires.sound_pass)
    (enter_given a.k a.p a.part.pointer a.part.rows a.part.destination a.part.width c.requires.sound_pass c.requires.sound_part.rows c.requires.sound_part.width (sym c.part_bad.ensures ∙ c.if-part_bad.false))
