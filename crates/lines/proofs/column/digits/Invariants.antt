-- What is owed, in front of what is done, is the number.
use Rattle.lines.proofs.Columns.{Writing}
use Rattle.lines.proofs.column.digits.Given as goal

abbrev pub invariant-loop-i : goal.invariant-loop-i
invariant-loop-i l = Writing l.initial.out l.at l.end l.x l.out l.n l.i
