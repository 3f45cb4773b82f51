-- The four edges' tests, joined from the left; each edge reads back as the number that it is.
use Rattle.std.proofs.Common.{rules, refl}
use Rattle.std.proofs.Math.Bool.{or_assoc, or-false}
use Rattle.object.proofs.Edges.{edge_is}
use Rattle.checks.specs.Check.{scissor_bad}
use Rattle.checks.proofs.check.scissor_bad.Goals as goal

pub returns : goal.returns
unfolding scissor_bad
returns c =
    let s = c.args.s in
    rw (
      c.edge_bad.ensures,
      c.edge_bad-2.ensures,
      c.edge_bad-3.ensures,
      c.edge_bad-4.ensures,
      edge_is {z = s.ulx} (search rules) refl,
      edge_is {z = s.uly} (search rules) refl,
      edge_is {z = s.lrx} (search rules) refl,
      edge_is {z = s.lry} (search rules) refl,
    )
    (simp (or_assoc, or-false))
