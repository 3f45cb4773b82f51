-- A pass without a line leaves the same strips to come; the pass after it may draw, or be the last.
use Rattle.std.proofs.Common.{arith, sym}
use Rattle.ruler.proofs.Strips.{none_left, idled_start, idled_more, idled_next, idled_over}
use Rattle.ruler.proofs.strip.next_strip.Goals as goal

pub returns-then-p-eq0 : goal.returns-then-p-eq0
returns-then-p-eq0 c = rw (sym c.p.view_is) (none_left _ _ _ c.p.inside.left _ c.if-p-eq0.true)

pub loop-p-init : goal.loop-p-init
loop-p-init c = rw (sym c.p.view_is) (idled_start _ _ (omega arith))

pub returns-then-p-ge1024 : goal.returns-then-p-ge1024
returns-then-p-ge1024 c = let e = sym c.p-in-loop-p.view_is in rw e (idled_next _ _ _ (omega arith) (omega arith) (rw e at c.loop-p.invariant))

pub loop-p-preserved : goal.loop-p-preserved
loop-p-preserved c = let e = sym c.p-in-loop-p.view_is in rw (c.idle-p.ensures, e) (idled_more _ _ _ (omega arith) (omega arith) (rw e at c.loop-p.invariant))

pub returns : goal.returns
returns c = let e = sym c.p-in-loop-p.view_is in idled_over _ _ _ (omega arith) (rw e at c.loop-p.invariant)
