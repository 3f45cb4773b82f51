-- Nothing is written where 1 to 6 refuses, of the exported run: by the same of the plan. D is docs/SPECIFICATION.md, section 4.
-- Assumes nothing.
use Rattle.std.specs.Prelude.{◌≡◌, List, ℕ, ◌≤◌}
use Rattle.checks.specs.Check.{verdict_number}
use Rattle.plan.specs.Whole.{plan_of}
use Rattle.request.specs.Host.{host_request}
use Rattle.visorlongan.specs.Host.{host_run}
use Rattle.visorlongan.proofs.Laws.{host_nothing}
use Rattle.demands.proofs.Early.{early_nothing}

-- the same of the exported run: whatever words it was lent, those of bank and plan are as they were
pub host_early : (object request bank plan end : List ℕ) → 1 ≤ verdict_number (plan_of (host_request object request)).verdict → verdict_number (plan_of (host_request object request)).verdict ≤ 6
    → ((host_run object request bank plan end).bank ≡ bank) × ((host_run object request bank plan end).plan ≡ plan)
host_early object request bank plan end low high = let n = early_nothing (host_request object request) low high in host_nothing object request bank plan end n.0 n.1
