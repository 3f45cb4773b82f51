-- What the checks answer picks the case.
use Rattle.std.specs.Prelude.{Ok}
use Rattle.std.proofs.Common.{sym, ap, subst, ◌∙◌}
use Rattle.object.specs.declared.types.Background.{Background}
use Rattle.checks.specs.Known.{KnownOf}
use Rattle.plan.specs.declared.types.Copy.{Copy}
use Rattle.sample.specs.Cell.{cell_in}
use Rattle.sample.proofs.Cell.{checked_scaled, sample_refused, sample_copy}
use Rattle.sample.proofs.engine.sample.Goals as goal

pub unreachable-requires : goal.unreachable-requires
unreachable-requires c = checked_scaled 4 c.args.object.now c.args.scissor c.in-Ok-Scaled.field-0-0 (sym c.checked.ensures.is ∙ c.in-Ok-Scaled.is ∙ ap (λ (b : Background). Ok b) c.in-Ok-Scaled.field-0-is)

pub returns-in-Ok-Copy : goal.returns-in-Ok-Copy
returns-in-Ok-Copy c =
    let a = c.args in
    c.cell_of.ensures
    ∙ ap (λ (d : Copy). cell_in d a.column a.line) c.copy_of.ensures.is
    ∙ sample_copy 4 a.object.now a.scissor a.column a.line c.in-Ok-Copy.bg 0
    (sym c.checked.ensures.is ∙ c.in-Ok-Copy.is ∙ ap (λ (b : Background). Ok b) c.in-Ok-Copy.field-0-is)
    (subst (λ (b : Background). KnownOf a.scissor (Ok b)) c.in-Ok-Copy.field-0-is c.in-Ok-Copy.ensures.known).flip

pub returns-in-Err : goal.returns-in-Err
returns-in-Err c = let a = c.args in sample_refused 4 a.object.now a.scissor a.column a.line _ (sym c.checked.ensures.is ∙ c.in-Err.is)
