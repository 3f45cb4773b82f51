-- The plan of a request, with the verdicts in the order of D 4.6. D is docs/SPECIFICATION.md.
-- Assumes nothing.
use Rattle.std.specs.Prelude.{true, false, ℕ, Ok, Err}
use Rattle.object.specs.declared.types.ObjBg.{ObjBg}
use Rattle.checks.specs.Check.{Checked}
use Rattle.object.specs.declared.types.Background.TheVariants as background
use Rattle.object.specs.declared.types.Verdict.TheVariants as verdict
use Rattle.checks.specs.Check.{checked_of}
use Rattle.plan.specs.Request.{Request}
use Rattle.plan.specs.Out.{Out, Plan, yield, refuse, plan_out}
use Rattle.plan.specs.Copy.{copy_of, copy_empty, copy_plan}
use Rattle.plan.specs.Scaled.{clip_of, scaled_empty, start_of, scaled_of, slices_bad, first_of, scaled_plan}

-- D "then an empty frame answers 0 with no entries"
unfoldable pub copy_out : ObjBg → Request → Out (Unit {0})
copy_out bg q = let c = copy_of bg q.scissor q.address in elim (copy_empty c) [ true ↦ yield tt | false ↦ copy_plan c ]

-- D "then an empty frame answers 0 with no entries, then 6"
unfoldable pub scaled_out : ObjBg → Request → Out (Unit {0})
scaled_out bg q =
    let c = clip_of bg q.scissor in
    let i = start_of bg c in
    let z = scaled_of bg q.mode q.address c i in
    elim (scaled_empty c) [ true ↦ yield tt | false ↦ elim (slices_bad z) [ true ↦ refuse verdict.Slices | false ↦ scaled_plan z c (first_of z i) ] ]

-- D "1 to 5 are tried in this order"
unfoldable pub checked_out : Checked → Request → Out (Unit {0})
checked_out (Err v) q = refuse v
checked_out (Ok (background.Copy bg)) q = copy_out bg q
checked_out (Ok (background.Scaled bg)) q = scaled_out bg q

-- the plan, for pointers of p bytes
unfoldable pub plan_with : ℕ → Request → Plan
plan_with p q = plan_out (checked_out (checked_of p q.bytes q.opcode q.scissor) q)

-- D "the object has 4-byte pointers"
unfoldable pub plan_of : Request → Plan
unfolding plan_with
plan_of q = plan_with 4 q
