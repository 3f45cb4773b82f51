-- A frame is not negative.
use Rattle.measures.specs.Range.{counted}
use Rattle.scaled.specs.Clip.{removed}
use Rattle.scaled.proofs.clip.removed_of.Goals as goal

pub returns-clause-value : goal.returns-clause-value
unfolding removed
returns-clause-value c =
    let e = rw (c.sub.ensures, c.max_of.ensures.value) at c.extent.ensures in
    rw (e, counted c.requires.0.low)
