-- A set-up that gives a verdict, or the numbers of its parts.
use Rattle.std.proofs.Common.{◌≡◌, Ok, subst, sym, ◌∙◌, arith}
use Rattle.std.specs.Prelude.{IfOk}
use Rattle.setup.specs.Parts.{PartsAre}
use Rattle.ruler.proofs.Known.{set_made, set_is, set_none}
use Rattle.ruler.proofs.found.scaled_found.Goals as goal

pub returns-in_err-parts : goal.returns-in_err-parts
returns-in_err-parts c = rw c.from_residual.ensures (set_none c.args.bg c.args.q.scissor c.args.q.mode c.args.q.address c.set_up.result c.set_up.ensures.is (sym c.ok.ensures.value ∙ c.in_err-parts.was))

pub made-requires : goal.made-requires
made-requires c =
    let e : c.set_up.result ≡ Ok c.in_ok-parts.parts = grind arith in
    set_made (subst (λ r. IfOk r (PartsAre c.args.bg c.args.q.scissor c.args.q.mode c.args.q.address)) e c.set_up.ensures.parts)

pub returns : goal.returns
returns c =
    let e : c.set_up.result ≡ Ok c.in_ok-parts.parts = grind arith in
    set_is (subst (λ r. IfOk r (PartsAre c.args.bg c.args.q.scissor c.args.q.mode c.args.q.address)) e c.set_up.ensures.parts) c.made.result c.made.ensures
