-- Each way out is one of the laws of `Passed`, by what `kind` and the decoder gave.
use Rattle.std.proofs.Common.{◌≡◌, Ok, Some, None, arith, sym, ◌∙◌, rules}
use Rattle.std.proofs.lemmas.Result.{err_from_is_err_and}
use Rattle.object.specs.declared.types.Verdict.TheVariants as verdict
use Rattle.checks.specs.Check.{checked_of}
use Rattle.checks.proofs.Passed.{short_refused, object_checked, checked_is}
use Rattle.checks.proofs.check.checked.Goals as goal

pub returns-in_err-copy : goal.returns-in_err-copy
unfolding checked_of
returns-in_err-copy c = search rules

pub returns-in_err-bg : goal.returns-in_err-bg
returns-in_err-bg c =
    let p = err_from_is_err_and c.from_residual-in_err-bg.result c.from_residual-in_err-bg.ensures.1 in
    let kind : c.kind.result ≡ Ok c.in_ok-copy.copy = grind arith in
    let none : c.decode_obj_bg.result ≡ None = grind arith in
    let short : c.in_err-bg.field-0.0 ≡ verdict.Short = search rules in
    rw (p.1, p.2, short) (checked_is _ _ _ _ (λ k. (c.type_inv.object k).fits)
    (short_refused 4 _ _ _ _ (sym c.kind.ensures ∙ kind) (sym c.decode_obj_bg.ensures ∙ none)))

pub returns-then-scissor_bad : goal.returns-then-scissor_bad
returns-then-scissor_bad c =
    let kind : c.kind.result ≡ Ok c.in_ok-copy.copy = grind arith in
    let some : c.decode_obj_bg.result ≡ Some c.in_ok-bg.bg = grind arith in
    checked_is _ _ _ _ (λ k. (c.type_inv.object k).fits)
    (rw (sym c.scissor_bad.ensures ∙ c.if-scissor_bad.true) at (object_checked 4 c.args.object.now c.args.opcode c.args.scissor c.in_ok-copy.copy (sym c.kind.ensures ∙ kind) c.in_ok-bg.bg (sym c.decode_obj_bg.ensures ∙ some)))

pub returns : goal.returns
returns c =
    let kind : c.kind.result ≡ Ok c.in_ok-copy.copy = grind arith in
    let some : c.decode_obj_bg.result ≡ Some c.in_ok-bg.bg = grind arith in
    checked_is _ _ _ _ (λ k. (c.type_inv.object k).fits)
    (c.object_checked.ensures ∙ (rw (sym c.scissor_bad.ensures ∙ c.if-scissor_bad.false) at (object_checked 4 c.args.object.now c.args.opcode c.args.scissor c.in_ok-copy.copy (sym c.kind.ensures ∙ kind) c.in_ok-bg.bg (sym c.decode_obj_bg.ensures ∙ some))))
