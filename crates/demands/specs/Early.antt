-- What the verdict table's last column says of 1 to 6: nothing is written. proofs/Early.antt has it of every plan. D is docs/SPECIFICATION.md, section 4.
-- Assumes nothing.
use Rattle.std.specs.Prelude.{◌≡◌, [], ◌≤◌}
use Rattle.checks.specs.Check.{verdict_number}
use Rattle.plan.specs.Out.{Out, plan_out}

-- nothing was given and nothing set where the verdict is one of 1 to 6
abbrev pub Nothing : Out (Unit {0}) → Type 0
Nothing o = 1 ≤ verdict_number (plan_out o).verdict → verdict_number (plan_out o).verdict ≤ 6 → ((plan_out o).entries ≡ []) × ((plan_out o).left ≡ [])
