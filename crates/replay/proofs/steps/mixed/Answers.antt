-- The run writes what the steps that are passed over give, and leaves the words of the bank after them.
use Rattle.std.proofs.Common.{ap, ◌∙◌}
use Rattle.giving.specs.Host.{bank_numbers}
use Rattle.replay.specs.Steps.{stepped_from}
use Rattle.banks.proofs.Banks.{bank_fits}
use Rattle.replay.proofs.Stepping.{passable, mixed_is}
use Rattle.replay.proofs.steps.mixed.Goals as goal

pub pass_over-rest-requires : goal.pass_over-rest-requires
pass_over-rest-requires c =
    let w = c.words_of-words.ensures ∙ ap bank_numbers c.bank_from.ensures in
    let r = c.run_into-run in
    rw c.fresh.ensures.coming (passable _ _ c.requires _ (bank_fits c.args.stored.now) _ w r.result r.ensures.value)

pub returns : goal.returns
returns c =
    let w = c.words_of-words.ensures ∙ ap bank_numbers c.bank_from.ensures in
    let r = c.run_into-run in
    mixed_is _ _ c.requires _ (bank_fits c.args.stored.now) _ w r.result r.ensures.value _ r.ensures.bank _ (rw c.fresh.ensures.coming at c.pass_over-rest.ensures) _
    (c.steps_from.ensures ∙ ap (stepped_from _ _) c.bank_from-2.ensures)
