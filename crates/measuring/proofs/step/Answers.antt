-- What the step gives picks the law.
use Rattle.std.specs.Result.{is_ok}
use Rattle.std.proofs.Common.{sym, ap, ◌∙◌}
use Rattle.std.proofs.lemmas.Result.{err_from_is_err_and}
use Rattle.measuring.proofs.Stepped.{entry_small, entry_measured, entry_over, none_over, entry_given, not_given}
use Rattle.measuring.proofs.step.Goals as goal

pub returns-in_err-entry : goal.returns-in_err-entry
returns-in_err-entry c =
    let p = err_from_is_err_and c.from_residual.result c.from_residual.ensures.1 in
    rw p.1 (none_over _ _ c.step-s.ensures c.args.r c.args.place (not_given _ (sym c.map_err.ensures.variant ∙ ap is_ok c.in_err-entry.was)))

pub taken-requires : goal.taken-requires
taken-requires c = (c.requires.0, entry_small _ _ c.step-s.ensures _ (entry_given _ _ _ _ c.map_err.ensures.cases c.in_ok-entry.was) c.requires.1)

pub returns-in_err-measured : goal.returns-in_err-measured
returns-in_err-measured c =
    let p = err_from_is_err_and c.from_residual-in_err-measured.result c.from_residual-in_err-measured.ensures.1 in
    rw p.1 (entry_over _ _ c.step-s.ensures _ _ _ (entry_given _ _ _ _ c.map_err.ensures.cases c.in_ok-entry.was) _ c.in_err-measured.ensures)

pub returns : goal.returns
returns c = entry_measured _ _ c.step-s.ensures _ _ _ (entry_given _ _ _ _ c.map_err.ensures.cases c.in_ok-entry.was) c.requires.1 _ c.in_ok-measured.ensures
