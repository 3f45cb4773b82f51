-- Where lines are left, the walk before the next pass is sound.
use Rattle.passes.specs.Given.{due_sound}
use Rattle.passes.proofs.step.begun.Goals as goal

pub next_pass-requires-clause-sound_scaled : goal.next_pass-requires-clause-sound_scaled
next_pass-requires-clause-sound_scaled c = (due_sound c.args.p c.in-Pass.due (rw c.in-Pass.is at c.requires)).0

pub next_pass-requires-clause-sound_walk : goal.next_pass-requires-clause-sound_walk
next_pass-requires-clause-sound_walk c = rw c.due_walk.ensures ((due_sound c.args.p c.in-Pass.due (rw c.in-Pass.is at c.requires)).1)
