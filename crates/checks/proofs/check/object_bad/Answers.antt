-- The row's conditions, joined from the left.
use Rattle.std.proofs.Math.Bool.{or_assoc, or-false}
use Rattle.checks.specs.Check.{object_faults}
use Rattle.checks.proofs.check.object_bad.Goals as goal

pub returns : goal.returns
unfolding object_faults
returns c = rw (c.quarters.ensures, c.quarters-2.ensures, c.quarters-3.ensures, c.quarters-4.ensures, c.load_bad.ensures) (simp (or_assoc, or-false))
