-- The passes so far had no line, so that the same strips are to come.
use Rattle.ruler.proofs.Strips.{Idled}
use Rattle.ruler.proofs.strip.next_strip.Given as goal

abbrev pub invariant-loop-p : goal.invariant-loop-p
invariant-loop-p l = Idled l.r.frame_rows l.fn.start l.p

abbrev pub decreases-loop-p : goal.decreases-loop-p
decreases-loop-p l = l.p.fuel
