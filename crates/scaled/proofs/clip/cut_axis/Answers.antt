-- The cuts are the definition's, and so are the sums of them.
use Rattle.scaled.specs.Clip.{start_at, rest_of}
use Rattle.scaled.specs.Range.{reads_edge}
use Rattle.scaled.proofs.clip.cut_axis.Goals as goal

pub returns : goal.returns
unfolding start_at rest_of
returns c =
    let n = rw (reads_edge c.requires.below.0) at c.near_cut-near.ensures.value in
    let f = rw (reads_edge c.requires.below.1) at c.far_cut-far.ensures.value in
    record {
      near = n;
      far = f;
      start = rw (c.add.ensures, n) at c.extent.ensures;
      rest = rw (c.sub.ensures, c.add-2.ensures, n, f) at c.extent-2.ensures;
    }
