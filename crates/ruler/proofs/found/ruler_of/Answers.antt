-- What the checks answer picks the law.
use Rattle.std.proofs.Common.{◌≡◌, Ok, Fits, rules, arith, sym, ◌∙◌}
use Rattle.std.specs.Int.{w64}
use Rattle.object.specs.declared.types.Background.TheVariants.{Scaled, Copy}
use Rattle.request.specs.Host.{with_bytes}
use Rattle.ruler.proofs.Known.{nothing_refused, nothing_copied, found_scaled}
use Rattle.ruler.proofs.found.ruler_of.Goals.{In-Scaled}
use Rattle.ruler.proofs.found.ruler_of.Goals as goal

pub returns-in_err-bg : goal.returns-in_err-bg
returns-in_err-bg c =
    let a = c.args in
    rw c.from_residual.ensures (nothing_refused (with_bytes a.object.now a.q) _ (sym c.checked.ensures.is) (sym c.ok.ensures.value ∙ c.in_err-bg.was))

pub returns-in_default : goal.returns-in_default
returns-in_default c =
    let a = c.args in
    let e : c.checked.result ≡ Ok (Copy c.in_default.field-0) = grind arith in
    nothing_copied (with_bytes a.object.now a.q) _ (sym c.checked.ensures.is ∙ e)

scaled : (c : In-Scaled) → c.checked.result ≡ Ok (Scaled c.in-Scaled.bg)
scaled c = grind arith

pub scaled_found-requires : goal.scaled_found-requires
scaled_found-requires c = rw (scaled c) at c.checked.ensures.known

pub returns : goal.returns
returns c =
    let a = c.args in
    let k = c.checked.ensures in
    let e = scaled (goal.at.returns c).In-Scaled in
    let f : Fits w64 a.q.address = search rules in
    found_scaled (with_bytes a.object.now a.q) _ (sym k.is ∙ e) (rw e at k.known) f.fits c.scaled_found.result c.scaled_found.ensures
