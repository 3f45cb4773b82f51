-- Neither distance is negative.
use Rattle.std.proofs.Common.{◌≡◌, ap, ◌∙◌, ◌+ℤ◌, ◌-ℤ◌}
use Rattle.measures.specs.Measure.{thirty_seconds, in_thirty_seconds}
use Rattle.measures.specs.Range.{counted}
use Rattle.scaled.specs.Strip.{origin_of}
use Rattle.scaled.proofs.start.origin_of.Goals as goal

pub returns : goal.returns
unfolding origin_of
returns c =
    let g : c.args.origin.0 +ℤ c.args.down.0 -ℤ c.args.back.0 ≡ origin_of c.args.origin.0 (thirty_seconds c.args.down) (thirty_seconds c.args.back) = rw (counted c.requires.1.0.low, counted c.requires.1.1.low) in
    (rw c.add.ensures at c.sub.ensures) ∙ ap in_thirty_seconds g
