-- The planner's step, put into words.
use Rattle.stepping.proofs.Movement.{moved_is}
use Rattle.stepping.proofs.moved.Goals as goal

pub returns : goal.returns
returns c = moved_is c.args.p c.step-s.result c.step-s.ensures c.args.bank.now _ _ _ c.state_of.ensures c.set_bank.ensures c.out_words.ensures
