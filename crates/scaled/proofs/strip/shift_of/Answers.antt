-- A shift is a quotient by a power of two.
use Rattle.std.proofs.Common.{refl}
use Rattle.scaled.specs.Number.{shift_range}
use Rattle.scaled.specs.Strip.{shift_of}
use Rattle.scaled.proofs.strip.shift_of.Goals as goal

pub returns-clause-value : goal.returns-clause-value
unfolding shift_of
returns-clause-value c = refl

pub returns-clause-lower_bound : goal.returns-clause-lower_bound
returns-clause-lower_bound c = shift_range c.args.siz c.requires
