-- The fields are the definition's, and the law of its range carries over.
use Rattle.std.proofs.Common.{◌≡◌, sym, ap, ◌∙◌, subst}
use Rattle.plan.specs.declared.types.Clip.{Clip}
use Rattle.plan.specs.Scaled.{clip_of, scaled_empty}
use Rattle.scaled.specs.Range.{Filled}
use Rattle.scaled.specs.Clip.{greatest, removed, kept, lower, moved, near_cut, far_cut, start_at, rest_of}
use Rattle.scaled.specs.ClipLaw.{clip_filled}
use Rattle.scaled.proofs.clip.clip_of.Goals as goal
use Rattle.scaled.proofs.clip.clip_of.Goals.{After-down-vertical}

abbrev clip : After-down-vertical → Clip
clip c =
    let h = c.across-horizontal.result in
    let v = c.down-vertical.result in
    record { flip = c.flipped-flip.result; left = h.near; top = v.near; right = h.far; x = h.start; y = v.start; width = h.rest; height = v.rest }

is : (c : After-down-vertical) → clip c ≡ clip_of c.args.bg c.args.scissor
unfolding clip_of greatest removed kept lower moved near_cut far_cut start_at rest_of
is c =
    let h = rw c.flipped-flip.ensures at c.across-horizontal.ensures in
    let v = c.down-vertical.ensures in
    λ i. record { flip = c.flipped-flip.ensures i; left = h.near i; top = v.near i; right = h.far i; x = h.start i; y = v.start i; width = h.rest i; height = v.rest i }

pub returns : goal.returns
returns c =
    let i = is (goal.at.returns c).After-down-vertical in
    record { is = i; filled = λ e. subst Filled (sym i) (clip_filled _ _ c.requires (sym (ap scaled_empty i) ∙ e)) }
