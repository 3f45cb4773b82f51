-- Each part is the definition's, and the test tells whether the plan is longer than the chunk.
use Rattle.std.proofs.Common.{ap, ◌∙◌, rules}
use borrow.Author.Tests.{ltb-true}
use Rattle.giving.specs.Host.{bank_numbers}
use Rattle.replay.specs.Outcome.{outcome_of}
use Rattle.replay.specs.Steps.{stepped_of}
use Rattle.replay.proofs.Stepping.{entries_are, replayed}
use Rattle.replay.proofs.record.run_and_step.Goals as goal

pub then-mixed-requires : goal.then-mixed-requires
then-mixed-requires c = let e = entries_are _ _ c.count-end.ensures in λ t. let l = rw e at (ltb-true _ _ t) in search l

pub returns : goal.returns
returns c =
    let b = c.bank_from-bank.ensures in
    replayed _ _ _ _ _ _ _ (c.run_into-run.ensures.value ∙ ap (outcome_of _ _) (c.words_of-words.ensures ∙ ap bank_numbers b)) c.count-end.ensures (c.stepped-steps.ensures ∙ ap (stepped_of _) b) _ c.then-mixed.ensures.variant (search rules)
