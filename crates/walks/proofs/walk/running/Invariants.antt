-- After the first pass every strip has all of its rows; what is to come stays the same over each pass without a line, and the count rises to a line.
use Rattle.std.proofs.Common.{◌≡◌, ◌-◌, pos}
use Rattle.signed.specs.Diff.{up}
use Rattle.walks.specs.Going.{Gone}
use Rattle.walks.proofs.walk.running.Given as goal

abbrev pub invariant-loop-p : goal.invariant-loop-p
invariant-loop-p l = (Gone l.p.scaled l.fn.walk l.w) × (l.w.slice_rows ≡ pos l.p.scaled.image_rows)

abbrev pub decreases-loop-p : goal.decreases-loop-p
decreases-loop-p l = 1024 - up l.w.count
