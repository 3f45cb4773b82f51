-- The buffer has the words of just the entries that the end counts.
use Rattle.std.proofs.Common.{rules, arith, sym, length-take-le}
use Rattle.replay.proofs.Outcomes.{room, outcome_is, left_is}
use Rattle.replay.proofs.outcome.run_into.Goals as goal

pub overflow_mul-n : goal.overflow_mul-n
overflow_mul-n c = let r = c.run-end in let h = room _ _ _ r.result r.ensures.end in search rules

pub slice_bounds-digest-end : goal.slice_bounds-digest-end
slice_bounds-digest-end c = let r = c.run-end in let h = room _ _ _ r.result r.ensures.end in omega (arith, r.auto.plan)

pub slice_bounds-digest-end-2 : goal.slice_bounds-digest-end-2
slice_bounds-digest-end-2 c = let r = c.run-end in let h = room _ _ _ r.result r.ensures.end in sym (length-take-le _ _ (omega (arith, r.auto.plan)))

pub returns-clause-value : goal.returns-clause-value
returns-clause-value c = let r = c.run-end in outcome_is _ _ _ r.result r.ensures.end _ _ _ _ r.ensures.buffer r.ensures.bank c.digest-entries.ensures c.digest-bank.ensures

pub returns-clause-bank : goal.returns-clause-bank
returns-clause-bank c = let r = c.run-end in left_is _ _ _ r.result r.ensures.end _ r.ensures.bank
