-- A fresh planner has its request's whole plan to come, and the plan of no object is the short case's.
use Rattle.std.proofs.Common.{sym, ap, ◌∙◌, arith, length-take-le}
use Rattle.plan.specs.Request.{Request}
use Rattle.plan.specs.Steps.{coming_of}
use Rattle.checks.specs.Check.{checked_of}
use Rattle.plan.specs.Whole.{plan_of, checked_out}
use Rattle.request.specs.Stored.{request_of, short_of}
use Rattle.show.specs.Case.{case_long, case_short}
use Rattle.show.proofs.case.case_planner.Goals as goal

pub slice_bounds-fresh-end : goal.slice_bounds-fresh-end
slice_bounds-fresh-end c = let bs = c.args.bytes.now in sym (length-take-le _ bs (omega (arith, (request_of bs c.in-Some.q c.in-Some.ensures).0)))

pub returns-in-Some : goal.returns-in-Some
returns-in-Some c =
    let bs = c.args.bytes.now in
    let i = request_of bs c.in-Some.q c.in-Some.ensures in
    record {
      coming = c.fresh.ensures.coming ∙ ap (λ (r : Request). coming_of (plan_of r)) (i.1 40) ∙ ap coming_of (sym (case_long bs i.0));
      sound = c.fresh.ensures.sound;
    }

pub returns-in-None : goal.returns-in-None
unfolding plan_of checked_out checked_of
returns-in-None c =
    let i = short_of c.args.bytes.now c.in-None.ensures in
    record {
      coming = c.fresh-in-None.ensures.coming ∙ ap coming_of (sym (case_short c.args.bytes.now i));
      sound = c.fresh-in-None.ensures.sound;
    }
