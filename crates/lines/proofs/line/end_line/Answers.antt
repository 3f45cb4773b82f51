-- Five columns fit a line.
use Rattle.std.proofs.Common.{arith}
use Rattle.lines.specs.Text.{end_text}
use Rattle.lines.specs.Lines.{total_of}
use Rattle.lines.proofs.line.end_line.Goals as goal

pub row-requires : goal.row-requires
unfolding total_of
row-requires c = omega arith

pub returns : goal.returns
unfolding end_text
returns c = rw (← c.end_words.ensures) c.row.ensures
