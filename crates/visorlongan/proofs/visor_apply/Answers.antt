-- Two lengths are tested, and the rest is `applying::apply`'s promise.
use Rattle.std.specs.Prelude.{Result, Ok, Err}
use Rattle.std.specs.Result.{is_err}
use Rattle.std.proofs.Common.{◌≡◌, refl, ap, ◌∙◌, ℕ}
use mir.Val.{bool_byte}
use Rattle.applying.specs.declared.NoEntry.{NoEntry}
use Rattle.applying.specs.Applied.{answer_of, applied, applied_of}
use Rattle.visorlongan.proofs.Left.{odd_entry, odd_bank_there, applies}
use Rattle.visorlongan.proofs.visor_apply.Goals as goal

-- the test as a word
number : (r : Result (Unit {0}) NoEntry) → bool_byte (is_err r) ≡ answer_of r
number (Ok u) = refl
number (Err e) = refl

pub returns-in_default : goal.returns-in_default
returns-in_default c = odd_entry _ _ c.in_default.ensures.cases

pub returns-in-None : goal.returns-in-None
returns-in-None c = odd_bank_there _ _ c.in-Some.ensures.cases.long c.in-None.ensures.cases

pub returns-in-Some-as_mut_array : goal.returns-in-Some-as_mut_array
returns-in-Some-as_mut_array c =
    let w = c.in-Some.ensures.cases in
    let b = c.in-Some-as_mut_array.ensures.cases in
    let answer = c.from.ensures ∙ ap bool_byte c.is_err.ensures.value ∙ number c.apply.result in
    applies _ _ w.long b.long _ _ (ap (λ (n : ℕ). applied n c.apply.new.bank) answer ∙ c.apply.ensures ∙ (λ i. applied_of (w.same i) (b.same i)))
