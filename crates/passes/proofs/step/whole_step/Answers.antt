-- The load and the move are their functions', and the law joins them.
use Rattle.std.proofs.lemmas.Result.{err_from_is_err_and}
use Rattle.passes.specs.Given.{give_whole_load, refuse_whole}
use Rattle.passes.proofs.step.whole_step.Goals as goal

pub returns : goal.returns
returns c = give_whole_load c.args.p _ c.moved_on.result (rw (c.in_ok-entry.was, c.whole_part.ensures.0) at c.load.ensures) c.moved_on.ensures

pub returns-in_err-entry : goal.returns-in_err-entry
returns-in_err-entry c =
    let err = err_from_is_err_and c.from_residual.result c.from_residual.ensures.1 in
    rw (err.1, err.2) (refuse_whole c.args.p _ (rw (c.in_err-entry.was, c.whole_part.ensures.0) at c.load.ensures))
