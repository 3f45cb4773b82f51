-- A word has 2 to 16 texels, so the quotient and the product are within n.
use Rattle.std.proofs.Common.{arith}
use Rattle.strips.specs.Strip.{texels_bounds, aligned_is}
use Rattle.strips.proofs.strip.aligned.Goals as goal

pub nonzero_div-result : goal.nonzero_div-result
nonzero_div-result c = let t = texels_bounds c.args.c c.requires.sound_copy in omega arith

pub returns : goal.returns
returns c = aligned_is c.args.c c.args.n c.requires.sound_copy
