-- What a copy request comes to: its checks refuse it, or its frame is empty, or it has its frame's plan. For pointers of p bytes.
-- Assumes nothing.
use Rattle.std.specs.Prelude.{◌≡◌, true, ℕ, ◌≤◌}
use Rattle.object.specs.declared.types.ObjBg.{ObjBg}
use Rattle.object.specs.declared.types.Verdict.{Verdict}
use Rattle.object.specs.Layout.{decode}
use Rattle.checks.specs.Check.{verdict_number}
use Rattle.plan.specs.Request.{Request}
use Rattle.plan.specs.declared.types.Copy.{Copy}
use Rattle.plan.specs.Out.{yield, refuse, plan_out}
use Rattle.plan.specs.Copy.{copy_of, copy_empty, copy_plan}
use Rattle.plan.specs.Whole.{plan_with}
use Rattle.plan.specs.Sound.{SoundCopy}

-- the object of a copy request, and its frame
abbrev pub object_in : ℕ → Request → ObjBg
object_in p q = decode p true q.bytes

abbrev pub frame_of : ℕ → Request → Copy
frame_of p q = copy_of (object_in p q) q.scissor q.address

-- D "1 to 5 are tried in this order": the verdict of a copy's check, which is not 1
pub record ByChecks (v : Verdict) : Type 0 where
  pub low : 2 ≤ verdict_number v
  pub high : verdict_number v ≤ 5

pub data Course (p : ℕ) (q : Request) : Type 0 where
  refused : (v : Verdict) → ByChecks v → plan_with p q ≡ plan_out (refuse v) → Course p q
  empty : copy_empty (frame_of p q) ≡ true → plan_with p q ≡ plan_out (yield tt) → Course p q
  framed : SoundCopy (frame_of p q) → plan_with p q ≡ plan_out (copy_plan (frame_of p q)) → Course p q
