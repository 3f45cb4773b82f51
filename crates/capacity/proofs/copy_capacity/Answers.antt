-- Every entry of the table is the rule's: antt computes the test of all twenty.
use Rattle.std.proofs.Common.{refl, arith}
use Rattle.plan.specs.Copy.{copy_capacity}
use Rattle.capacity.specs.declared.TheConstants.{COPY_CAPACITY}
use Rattle.capacity.proofs.Table.{at}
use Rattle.capacity.proofs.copy_capacity.Goals as goal

pub returns : goal.returns
returns c = rw c.entry.ensures (at copy_capacity COPY_CAPACITY tt refl c.args.fmt c.args.siz _ c.requires.1 (record { is = refl; below = omega arith }))
