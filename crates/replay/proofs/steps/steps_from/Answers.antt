-- A step answers the first of what is to come, and leaves the rest.
use Rattle.std.proofs.Common.{◌≡◌, ℕ, ◌+◌, ap, ◌∙◌}
use Rattle.std.specs.Int.{from_bool}
use Rattle.digest.specs.Fnv.{digest_of}
use Rattle.replay.proofs.Stepping.{end_is, under_more, under_over}
use Rattle.replay.specs.Steps.{ends_in}
use Rattle.replay.proofs.steps.steps_from.Goals as goal

counted : (c : goal.After-b-1) → c.loop-ends.ends + c.from-ends.result ≡ c.loop-ends.ends + ends_in c.step_with-s.result.answer
counted c = ap (λ (n : ℕ). c.loop-ends.ends + n) (c.from-ends.ensures ∙ ap from_bool c.is_err.ensures.value ∙ end_is c.step_with-s.result.answer)

pub loop-ends-preserved : goal.loop-ends-preserved
loop-ends-preserved c = under_more _ _ _ _ _ _ _ c.loop-ends.invariant c.loop-ends-test.true c.step_with-s.result c.step_with-s.ensures _ (counted c) _ c.answer_into-answers.ensures

pub returns : goal.returns
returns c = under_over _ _ _ _ _ _ _ c.loop-ends.invariant c.loop-ends-test.false _ (c.digest-bank.ensures ∙ ap digest_of c.words_of-words.ensures)
