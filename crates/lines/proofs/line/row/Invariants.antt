-- The cells that are written, and blanks for those to come, stand where the row begins.
use Rattle.std.specs.Iterator.Adapters.{zip_first, zip_second}
use Rattle.std.specs.Slice.Iter.{iter_rest}
use Rattle.lines.proofs.Rows.{Filled}
use Rattle.lines.proofs.line.row.Given as goal

abbrev pub invariant-loop-width : goal.invariant-loop-width
invariant-loop-width l =
    Filled l.fn.widths l.fn.words l.initial.out l.start l.out l.at (iter_rest (zip_first l.width-iterator)) (iter_rest (zip_second l.width-iterator))
