-- Where no row runs over, the choice after the last row is the choice here.
use Rattle.std.proofs.Common.{eq-eqb}
use Rattle.loads.specs.Enter.{chose_past}
use Rattle.loads.proofs.load.after_top.Goals as goal

pub returns-then-p-eq0 : goal.returns-then-p-eq0
returns-then-p-eq0 c = chose_past c.args.p c.after_split.result (eq-eqb _ _ c.if-p-eq0.true) c.after_split.ensures
