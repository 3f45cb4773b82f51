-- The entry and what comes after it are their functions', and the law joins them.
use Rattle.std.proofs.lemmas.Result.{err_from_is_err_and}
use Rattle.passes.specs.Given.{give_turn, refuse_turn}
use Rattle.passes.proofs.step.turn_step.Goals as goal

pub returns : goal.returns
returns c = give_turn c.args.p c.args.turn _ c.turned.result c.requires (rw c.in_ok-entry.was at c.turn_entry.ensures) c.turned.ensures

pub returns-in_err-entry : goal.returns-in_err-entry
returns-in_err-entry c =
    let err = err_from_is_err_and c.from_residual.result c.from_residual.ensures.1 in
    rw (err.1, err.2) (refuse_turn c.args.p c.args.turn _ (rw c.in_err-entry.was at c.turn_entry.ensures))
