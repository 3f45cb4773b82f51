-- The offset's sign picks the library's checked sum, which is the definition's.
use Rattle.signed.specs.Word.{rd}
use Rattle.loads.specs.Sums.{checked_on, checked_back}
use Rattle.loads.proofs.sums.source_address.Goals as goal

pub returns-then-offset-lt0 : goal.returns-then-offset-lt0
returns-then-offset-lt0 c = checked_back c.args.address c.args.offset c.checked_sub.result c.ranges.address.fits (rw (rd c.ranges.offset) at c.if-offset-lt0.true) (rw (c.unsigned_abs.ensures.value, rd c.ranges.offset) at c.checked_sub.ensures)

pub returns-else-offset-lt0 : goal.returns-else-offset-lt0
returns-else-offset-lt0 c = checked_on c.args.address c.args.offset c.checked_add.result (rw (rd c.ranges.offset) at c.if-offset-lt0.false) (rw (rd c.ranges.offset) at c.checked_add.ensures)
