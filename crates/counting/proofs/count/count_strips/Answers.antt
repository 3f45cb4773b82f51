-- Each step of a loop is one strip or one row of the plan; an end found early is the plan's.
use Rattle.std.proofs.Common.{sym, ◌∙◌}
use Rattle.counting.proofs.Counting.{started, row_begins, row_ends, strip_too_big, strip_refused, strip_counted, finished}
use Rattle.counting.proofs.count.count_strips.Goals as goal

pub rows-init : goal.rows-init
rows-init c = started c.strip_row-sy.ensures.is

pub columns-init : goal.columns-init
columns-init c =
    row_begins c.requires.sound_copy c.rows-test.true c.rows.invariant c.strip_height-strip_height.ensures.is c.column_at-first.ensures

pub columns-preserved : goal.columns-preserved
columns-preserved c =
    strip_counted c.requires.sound_copy c.rows-test.true c.strip_height-strip_height.ensures.rows c.columns.invariant c.columns-test.true c.strip_from-strip.ensures c.if-c-size.false
    c.requires.wrap_value (sym c.refused.ensures ∙ c.if-refused.false) c.max-words.ensures

pub rows-preserved : goal.rows-preserved
rows-preserved c =
    row_ends c.requires.sound_copy c.rows.invariant.row c.strip_height-strip_height.ensures.rows.height c.columns-test.false c.row_after-sy.ensures c.columns.invariant.at

pub returns-after-rows : goal.returns-after-rows
returns-after-rows c = finished c.rows-test.false c.rows.invariant

pub returns-then-c-size : goal.returns-then-c-size
returns-then-c-size c =
    strip_too_big c.requires.sound_copy c.rows-test.true c.strip_height-strip_height.ensures.rows c.columns.invariant c.columns-test.true c.strip_from-strip.ensures c.if-c-size.true

pub returns-then-refused : goal.returns-then-refused
returns-then-refused c =
    strip_refused c.requires.sound_copy c.rows-test.true c.strip_height-strip_height.ensures.rows c.columns.invariant c.columns-test.true c.strip_from-strip.ensures c.if-c-size.false
    (sym c.refused.ensures ∙ c.if-refused.true)
