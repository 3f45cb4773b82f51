-- Each way to the one place is one case of the strip after this one.
use Rattle.std.proofs.Common.{arith, lt-ltb, le-ltb}
use Rattle.copy.specs.Walk.{strip_next, copy_next_of}
use Rattle.copy.proofs.Onward.{moves}
use Rattle.copy.proofs.walk.strip_next.Goals as goal
use Rattle.copy.proofs.walk.strip_next.Goals.{then-right-c, else-right-c+else-c-below}

pub returns-then-c-below : goal.returns-then-c-below
unfolding copy_next_of strip_next
returns-then-c-below c = simp (le-ltb _ _ c.if-right-c.false, le-ltb _ _ c.if-c-below.true) (rw c.due_entry-entry.ensures)

pub strip_row-row-requires-clause-sound_copy : goal.strip_row-row-requires-clause-sound_copy
strip_row-row-requires-clause-sound_copy c = (moves c.args.due c.args.p c.requires).copy

pub strip_height-requires-clause-sound_copy : goal.strip_height-requires-clause-sound_copy
strip_height-requires-clause-sound_copy c = (moves c.args.due c.args.p c.requires).copy

pub place_at-place-requires-clause-sound_copy : goal.place_at-place-requires-clause-sound_copy
place_at-place-requires-clause-sound_copy c = (moves c.args.due c.args.p c.requires).copy

pub place_at-place-requires-clause-x_lt_width : goal.place_at-place-requires-clause-x_lt_width
place_at-place-requires-clause-x_lt_width c =
    let m = moves c.args.due c.args.p c.requires in
    elim c.if-right-c.branch [ then-right-c w ↦ rw w.x-is (omega arith) | else-right-c+else-c-below w ↦ let s = m.copy in rw w.x-is (omega arith) ]

pub returns : goal.returns
unfolding copy_next_of strip_next
returns c =
    let e = c.due_entry-entry.ensures in
    let p = c.place_at-place.ensures in
    elim c.if-right-c.branch [
      | then-right-c w ↦ simp (lt-ltb _ _ w.if-right-c.true) (rw (p, w.x-is, e))
      | else-right-c+else-c-below w ↦
          simp (le-ltb _ _ w.if-right-c.false, lt-ltb _ _ w.if-c-below.false)
          (rw (p, w.x-is, w.strip_height.ensures.is, w.strip_row-row.ensures.is, e))
    ]
