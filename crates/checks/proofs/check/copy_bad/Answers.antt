-- The Rust's words are the row's conditions, joined from the left.
use Rattle.std.proofs.Common.{arith}
use Rattle.std.proofs.Math.Bool.{or_assoc, or-false}
use Rattle.checks.specs.Check.{copy_faults}
use Rattle.checks.specs.Ties.{none, product}
use Rattle.checks.proofs.check.copy_bad.Goals as goal

pub returns : goal.returns
unfolding copy_faults
returns c =
    rw (
      c.flip_bad.ensures,
      c.strip_lines.ensures.0,
      c.texels.ensures,
      c.texels-2.ensures,
      product c.from.result c.from-2.result (omega (arith, c.from.ensures)) (omega (arith, c.from-2.ensures)),
      c.from.ensures,
      c.from-2.ensures,
      c.from-3.ensures,
      c.from-4.ensures,
    )
    (simp (none, or_assoc, or-false))
