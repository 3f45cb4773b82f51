-- The sum and the widths to come make up the total.
use Rattle.std.proofs.Common.{◌≡◌, ◌+◌, ◌*◌, ◌≤◌, drop}
use Rattle.lines.specs.Lines.{total_of}
use Rattle.lines.proofs.line.total.Given as goal

abbrev pub invariant-loop-width : goal.invariant-loop-width
invariant-loop-width l = (l.sum ≤ 255 * l.width-index) × (l.sum + total_of (drop l.width-index l.width-items) ≡ total_of l.fn.widths)
