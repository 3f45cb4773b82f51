-- The arm of a size or a load is the definition's third clause.
use Rattle.std.proofs.Common.{◌≡◌, true, false, arith}
use Rattle.std.proofs.lemmas.Grind.{common_steps}
use Rattle.applying.specs.Applied.{sets_nothing, sets_tile, sets_bounds, applied_of}
use Rattle.applying.proofs.apply.Goals as goal

pub returns-in-3 : goal.returns-in-3
unfolding applied_of
returns-in-3 c =
    let n : sets_nothing c.args.entry.now ≡ false = grind (arith, common_steps) in
    let t : sets_tile c.args.entry.now ≡ false = grind (arith, common_steps) in
    let b : sets_bounds c.args.entry.now ≡ true = grind (arith, common_steps) in
    rw (n, t, b, c.bounds_at.ensures)
