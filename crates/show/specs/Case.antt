-- A case, of any length: the plan that its text is of. D is docs/SPECIFICATION.md, section 12.
-- Assumes nothing.
use Rattle.std.specs.Prelude.{◌≡◌, cond, List, [], ℕ, ◌≤◌, ◌<◌, ltb, length}
use Rattle.std.proofs.Math.Path.{ap}
use Rattle.std.proofs.Common.{lt-ltb, le-ltb}
use Rattle.object.specs.declared.types.Verdict.TheVariants as verdict
use Rattle.plan.specs.Check.{request_at}
use Rattle.plan.specs.Next.{ended}
use Rattle.plan.specs.Out.{Plan}
use Rattle.plan.specs.Run.{rectangles, words_from, end_of}
use Rattle.plan.specs.Steps.{coming_of}
use Rattle.plan.specs.Whole.{plan_of}
use Rattle.planner.specs.Planner.{Planner}
use Rattle.planner.specs.Coming.{coming}
use Rattle.planner.specs.Planner.{Sound}
use Rattle.lines.specs.Text.{end_text, entries_text, plan_text}

-- D "Program `bgplan` reads 61 bytes"; "Fewer bytes print one end line with verdict 2"
unfoldable pub case_plan : List ℕ → Plan
case_plan bs = cond (ltb (length bs) 61) (ended [] verdict.Short) (plan_of (request_at 40 bs))

module _ (bs : List ℕ) where
  pub case_long : 61 ≤ length bs → case_plan bs ≡ plan_of (request_at 40 bs)
  unfolding case_plan
  case_long h = rw (le-ltb (length bs) 61 h)

  pub case_short : length bs < 61 → case_plan bs ≡ ended [] verdict.Short
  unfolding case_plan
  case_short h = rw (lt-ltb (length bs) 61 h)

  -- one end line with verdict 2
  pub short_text : length bs < 61 → plan_text (case_plan bs) ≡ end_text (record { verdict = verdict.Short; entries = 0; rectangles = 0; words = 0 })
  unfolding plan_text entries_text end_of rectangles words_from
  short_text h = ap plan_text (case_short h)

-- a planner that has all of a case's plan to come
pub record CaseIs (bs : List ℕ) (p : Planner) : Type 0 where
  pub coming : coming p ≡ coming_of (case_plan bs)
  pub sound : Sound p
