-- The tiles' words, one tile after another.
use Rattle.std.proofs.Common.{[], arith, ◌∙◌}
use Rattle.tile.specs.Bank.{blank}
use Rattle.tile.proofs.Known.{eight}
use Rattle.giving.specs.Host.{bank_numbers}
use Rattle.banks.proofs.Banks.{tiles_flat}
use Rattle.banks.proofs.bank.words_of.Goals as goal

pub returns : goal.returns
unfolding bank_numbers
returns c =
    let m = c.map.ensures.items in
    let n = eight c.args.bank c.well_formed.0 in
    c.copy_from_slice.ensures.after
    ∙ c.as_flattened.ensures.value
    ∙ tiles_flat c.args.bank.tiles c.map.result (omega (arith, m.long)) (λ i l. (m.at i blank [] (omega arith)).2.met)
