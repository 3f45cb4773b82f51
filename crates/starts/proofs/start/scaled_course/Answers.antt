-- The set-up's verdict, or what the first pass reaches.
use Rattle.std.proofs.Common.{Ok, Err, sym, ◌∙◌}
use Rattle.std.proofs.lemmas.Result.{err_from_is_err_and}
use Rattle.starts.specs.Start.{scaled_over, scaled_begins}
use Rattle.starts.proofs.start.scaled_course.Goals as goal

pub returns-in_err-parts : goal.returns-in_err-parts
returns-in_err-parts c =
    let p = err_from_is_err_and c.from_residual.result c.from_residual.ensures.1 in
    rw (p.1, p.2) (scaled_over _ _ _ _ _ (sym c.in_err-parts.was ∙ c.set_up.ensures.is))

pub returns-in_err-stage : goal.returns-in_err-stage
returns-in_err-stage c =
    let p = err_from_is_err_and c.from_residual-in_err-stage.result c.from_residual-in_err-stage.ensures.1 in
    rw (p.1, p.2) (scaled_begins _ _ _ _ _ (sym c.in_ok-parts.was ∙ c.set_up.ensures.is) (Err c.in_err-stage.field-0.0) c.in_err-stage.ensures)

pub returns : goal.returns
returns c = scaled_begins _ _ _ _ _ (sym c.in_ok-parts.was ∙ c.set_up.ensures.is) (Ok (c.in_ok-stage.stage, c.in_ok-stage.place)) c.in_ok-stage.ensures
