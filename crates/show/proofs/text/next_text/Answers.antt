-- Nothing stands before the first line; then each line follows the text, until there is no room for another or the end's is written.
use Rattle.show.proofs.Going.{going_start, going_full, going_more, going_end}
use Rattle.show.proofs.text.next_text.Goals as goal

pub loop-out-init : goal.loop-out-init
loop-out-init c = going_start c.args.start c.args.out.now

pub loop-out-preserved : goal.loop-out-preserved
loop-out-preserved c =
    going_more _ _ _ _ _ c.loop-out.invariant _ c.step-s.ensures c.loop-out-test.true c.in-Ok.entry c.in-Ok.is _ _ c.entry_line-count.ensures c.entry_line-count.auto.out

pub returns-in-Err : goal.returns-in-Err
returns-in-Err c = going_end _ _ _ _ _ c.loop-out.invariant _ c.step-s.ensures c.loop-out-test.true _ c.in-Err.is _ _ c.end_line.ensures

pub returns : goal.returns
returns c = going_full _ _ _ _ _ c.loop-out.invariant c.loop-out-test.false
