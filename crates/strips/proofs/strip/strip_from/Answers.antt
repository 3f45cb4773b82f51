-- The calls are the definition's steps, and its law has the bounds.
use Rattle.plan.specs.Copy.{strip_of}
use Rattle.strips.specs.Strip.{strip_is}
use Rattle.strips.proofs.strip.strip_from.Goals as goal

pub returns : goal.returns
unfolding strip_of
returns c =
    strip_is c.args.c c.args.x c.requires.sound_copy c.requires.x_lt_width
    (rw (c.line_of-line.ensures, c.aligned-aligned_left.ensures.is, c.source_left-source_left.ensures.is, c.width_at-strip_width.ensures, c.requires.less.is))
