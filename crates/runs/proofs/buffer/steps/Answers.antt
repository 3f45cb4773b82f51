-- What is given and what is to come make up the plan, until the end or a full buffer; the bank waits for the end.
use Rattle.std.proofs.Common.{refl, subst, ap, ◌∙◌, ◌*◌, ◌≡◌, arith}
use Rattle.std.specs.Option.{option_to_list}
use Rattle.words.specs.declared.count.Counts.{Counts}
use Rattle.giving.specs.Host.{words_after}
use Rattle.giving.specs.Places.{no_places}
use Rattle.planner.specs.Planner.{Planner, planner_at}
use Rattle.planner.specs.Coming.{coming}
use Rattle.planner.proofs.StepLaws.{gave_fewer}
use Rattle.runs.specs.Ran.{Going, next_place, going_start, going_more, going_places, at_in, steps_end, steps_full}
use Rattle.runs.proofs.buffer.steps.Goals as goal
use Rattle.runs.proofs.buffer.steps.Goals.{in-Some, in_default}

pub loop-entry-init : goal.loop-entry-init
loop-entry-init c =
    let s = c.start in
    let buf = c.args.plan.now in
    let n = s.inside.counts in
    let zero = ap (λ (p : Planner). p.counts) s.view_is ∙ c.requires.0 in
    let going = going_start c.args.kept (planner_at s.inside.course n) s.invariant zero buf c.requires.1 c.stride-stride.result in
    (rw c.no_places-places.ensures (subst (λ (p : Planner). Going c.args.kept (coming p) buf buf p n (n.entries * c.stride-stride.result) no_places) s.view_is going), (c.stride-stride.ensures, refl))

pub loop-entry-smaller : goal.loop-entry-smaller
loop-entry-smaller c = gave_fewer c.loop-entry.p c.step-s.result c.step-s.ensures _ c.in-Ok.is

pub loop-entry-preserved : goal.loop-entry-preserved
loop-entry-preserved c =
    let i = c.loop-entry.invariant in
    let g = c.give-g in
    let w = at_in _ i.0 in
    let place = ap (λ (m : Counts). m.entries * c.stride-stride.result) g.ensures.1 ∙ next_place c.args.kept _ i.1.0 _ _ in
    (going_more _ _ _ _ _ _ _ _ i.0 c.step-s.result c.step-s.ensures _ c.in-Ok.is _ _ _ _ g.ensures.0 g.ensures.1 g.ensures.2 place (omega (arith, w, c.if-plan-at-lt11.false)), i.1)

pub settled-requires : goal.settled-requires
settled-requires c = going_places _ c.loop-entry.invariant.0

pub returns-in-Err : goal.returns-in-Err
unfolding words_after
returns-in-Err c =
    let i = c.loop-entry.invariant in
    let sized : c.match-stop.bank ≡ words_after c.settled.new.bank (option_to_list c.in-Err.stop.size) =
    elim c.match-stop.branch [
      | in-Some w ↦ rw w.in-Some.is (w.bank-is ∙ w.set_words.ensures)
      | in_default w ↦ rw w.in_default.is w.bank-is
    ] in
    steps_end _ _ _ _ _ _ _ _ _ c.step-s.result c.step-s.ensures _ i.0 _ c.in-Err.is (rw i.1.1 at c.settled.ensures) _ sized _ c.end_of.ensures

pub settled-requires-2 : goal.settled-requires-2
settled-requires-2 c = going_places _ c.loop-entry.invariant.0

pub returns : goal.returns
returns c =
    let i = c.loop-entry.invariant in
    steps_full _ _ _ _ _ _ _ _ _ c.step-s.result c.step-s.ensures _ i.0 _ c.in-Ok.is c.if-plan-at-lt11.true (rw i.1.1 at c.settled-2.ensures) _ c.end_of-2.ensures
