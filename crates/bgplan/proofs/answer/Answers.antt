-- The planner of the bytes read has the text of the case's plan to come.
use Rattle.std.proofs.Common.{ap, ◌∙◌, ◌≡◌, subst, List, ℕ, length, take, Option, Some, None, IfSome, Result, Ok, Err, sym}
use Rattle.std.specs.Io.KnownBytes.{Appends}
use Rattle.plan.specs.Steps.{Coming, coming_of}
use Rattle.lines.specs.Text.{plan_text}
use Rattle.show.specs.Case.{case_plan}
use Rattle.show.specs.Joined.{coming_text, plan_text_lem}
use Rattle.std.specs.Result.{MatchResult, IfOk, IsErrAnd, OnOk}
use Rattle.std.specs.declared.io.Error.{Error}
use Rattle.bgplan.specs.declared.failure.Failure.{Failure}
use Rattle.bgplan.specs.declared.failure.Failure.TheVariants.{Output}
use Rattle.bgplan.specs.Answer.{AnswerIs}
use Rattle.bgplan.proofs.answer.Goals as goal

case_out : (input output output' : Option (List ℕ)) (bytes : List ℕ) (n : ℕ) (k : Coming) → length bytes ≡ 61 → IfSome input (λ bs. take n bytes ≡ take (length bytes) bs) → k ≡ coming_of (case_plan (take n bytes))
    → Appends output output' (coming_text k) → IfSome input (λ bs. Appends output output' (plan_text (case_plan (take 61 bs))))
case_out None output output' bytes n k l f e o = tt
case_out (Some bs) output output' bytes n k l f e o =
    let t : coming_text k ≡ plan_text (case_plan (take 61 bs)) = ap coming_text e ∙ plan_text_lem (case_plan (take n bytes)) ∙ ap (λ (x : List ℕ). plan_text (case_plan x)) (f ∙ ap (λ (m : ℕ). take m bs) l) in
    subst (Appends output output') t o

-- and a write that fails is told as one
out_or_failed : (input output output' : Option (List ℕ)) (bytes : List ℕ) (n : ℕ) (k : Coming) (r : Result (Unit {0}) Error) (s : Result (Unit {0}) Failure)
    → length bytes ≡ 61 → IfSome input (λ bs. take n bytes ≡ take (length bytes) bs) → k ≡ coming_of (case_plan (take n bytes)) → OnOk r (Appends output output' (coming_text k))
    → MatchResult r (λ x. s ≡ Ok x) (λ e. IsErrAnd s (λ f. f ≡ Output e)) → AnswerIs input output output' s
out_or_failed input output output' bytes n k (Ok x) s l f e o h = subst (AnswerIs input output output') (sym h) (case_out input output output' bytes n k l f e o)
out_or_failed input output output' bytes n k (Err w) (Ok x) l f e o h = absurd h
out_or_failed input output output' bytes n k (Err w) (Err v) l f e o h = subst (λ (y : Failure). AnswerIs input output output' (Err y)) (sym h) tt

-- a read that its caller goes on from gave that number
read_ok : (r : Result ℕ Error) (n : ℕ) → MatchResult r (λ x. ◌≡◌ {A = Result ℕ Failure} (Ok n) (Ok x)) (λ e. ⊥) → r ≡ Ok n
read_ok (Ok x) n h = cc
read_ok (Err w) n h = absurd h

pub returns : goal.returns
returns g c =
    let n = c.in_ok-n in
    let b = c.read.new.bytes in
    let r = read_ok c.read.result n.n n.ensures.cases in
    let f = subst (λ (q : Result ℕ Error). IfSome (g.R.Read.remaining c.args.input.now) (λ bs. IfOk q (λ m. take m b ≡ take (length b) bs))) r c.read.ensures.first in
    out_or_failed _ _ _ _ _ _ _ _ c.read.auto.bytes f c.case_planner.ensures.coming c.print.ensures c.map_err-2.ensures.cases
