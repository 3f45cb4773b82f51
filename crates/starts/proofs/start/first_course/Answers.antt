-- What the checks answer picks the law.
use Rattle.std.proofs.Common.{Ok, ap, sym, ◌∙◌}
use Rattle.std.proofs.lemmas.Result.{err_from_is_err_and}
use Rattle.starts.specs.Start.{starts_refused, starts_copy, starts_scaled}
use Rattle.starts.proofs.start.first_course.Goals as goal

pub returns-in_err-bg : goal.returns-in_err-bg
returns-in_err-bg c =
    let p = err_from_is_err_and c.from_residual.result c.from_residual.ensures.1 in
    rw (p.1, p.2) (starts_refused _ _ _ _ _ _ (sym c.checked.ensures.is ∙ c.in_err-bg.was))

pub returns-in-Copy : goal.returns-in-Copy
returns-in-Copy c = starts_copy _ _ _ _ _ _ _ (sym c.checked.ensures.is ∙ c.in_ok-bg.was ∙ ap Ok c.in-Copy.is) c.copy_course.ensures

pub returns-in-Scaled : goal.returns-in-Scaled
returns-in-Scaled c = starts_scaled _ _ _ _ _ _ _ (sym c.checked.ensures.is ∙ c.in_ok-bg.was ∙ ap Ok c.in-Scaled.is) c.scaled_course.ensures
