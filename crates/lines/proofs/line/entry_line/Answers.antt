-- The columns of every kind fit a line.
use Rattle.std.proofs.Common.{arith}
use Rattle.lines.specs.Text.{entry_text}
use Rattle.lines.proofs.Rows.{widths_fit}
use Rattle.lines.proofs.line.entry_line.Goals as goal

pub row-requires : goal.row-requires
row-requires c = rw c.widths_of.ensures (omega (arith, widths_fit c.args.e))

pub returns : goal.returns
unfolding entry_text
returns c = rw (← c.widths_of.ensures, ← c.entry_words.ensures) c.row.ensures
