-- A turn puts the last digit that is owed in front of those that are done; at the end none is owed, or there is no place for it.
use Rattle.lines.proofs.Columns.{writing_start, writing_more, writing_last, writing_full}
use Rattle.lines.proofs.column.digits.Goals as goal

pub loop-i-init : goal.loop-i-init
loop-i-init c = writing_start c.args.out.now c.args.at c.args.end c.args.x c.requires.0

pub returns-then-n-lt10 : goal.returns-then-n-lt10
returns-then-n-lt10 c = writing_last _ _ _ _ _ _ _ c.loop-i.invariant _ c.loop-i-test.true c.requires.1 c.digit.ensures c.if-n-lt10.true

pub loop-i-preserved : goal.loop-i-preserved
loop-i-preserved c = writing_more _ _ _ _ _ _ _ c.loop-i.invariant _ c.loop-i-test.true c.requires.1 c.digit.ensures c.if-n-lt10.false

pub returns : goal.returns
returns c = writing_full _ _ _ _ _ _ _ c.loop-i.invariant c.loop-i-test.false
