-- A step gives the next of the entries to pass.
use Rattle.std.proofs.Common.{arith}
use Rattle.replay.proofs.Stepping.{passed_more}
use Rattle.replay.proofs.steps.pass_over.Goals as goal

pub loop-preserved : goal.loop-preserved
loop-preserved c =
    let l = c.loop in
    passed_more _ _ _ l.invariant (omega (arith, c.requires)) c.step-p.result c.step-p.ensures
