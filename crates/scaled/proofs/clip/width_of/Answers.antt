-- Neither width is negative.
use Rattle.std.proofs.Common.{◌≡◌, ap, ◌∙◌, ◌-ℤ◌}
use Rattle.measures.specs.Measure.{quarters, in_quarters}
use Rattle.measures.specs.Range.{counted}
use Rattle.scaled.specs.Clip.{kept}
use Rattle.scaled.proofs.clip.width_of.Goals as goal

pub returns-clause-value : goal.returns-clause-value
unfolding kept
returns-clause-value c =
    let g : c.args.frame_w.0 -ℤ c.args.removed_w.0 ≡ kept (quarters c.args.frame_w) (quarters c.args.removed_w) = rw (counted c.requires.below.0.low, counted c.requires.below.1.low) in
    c.sub.ensures ∙ ap in_quarters g
