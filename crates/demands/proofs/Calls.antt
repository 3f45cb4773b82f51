-- Any number of calls, each on the words that the one before it left, whatever lies between them: the words of the plan's entries, one a call, then of its end for ever.
-- Assumes nothing.
use Rattle.std.specs.Prelude.{◌≡◌, refl, List, [], ◌∷◌, ℕ, length, Option, Some, None}
use Rattle.std.proofs.Common.{sym, ap, ◌∙◌, subst, arith, eq-eqb}
use Rattle.plan.specs.declared.types.Entry.{Entry}
use Rattle.plan.specs.declared.types.End.{End}
use Rattle.plan.specs.Whole.{plan_of}
use Rattle.plan.specs.Run.{end_words, end_of}
use Rattle.plan.specs.Steps.{Coming, coming_of, next_of, answer_of, answers}
use Rattle.words.specs.Counts.{counted_all}
use Rattle.giving.specs.Host.{words_after}
use Rattle.request.specs.Host.{host_request}
use Rattle.planner.specs.declared.types.Course.TheVariants as course
use Rattle.planner.specs.Planner.{Planner}
use Rattle.planner.specs.Coming.{coming}
use Rattle.planner.specs.Planner.{planner_at}
use Rattle.planner.proofs.StepLaws.{counts_at_end}
use Rattle.stored.specs.Stored.{WordsOf, LoadedIs}
use Rattle.stored.proofs.Laws.{one_planner, thirty_nine}
use Rattle.stepping.specs.Host.{answer_words, sets_next, Has, Moved, StepFrom, StepOf, StepIs, StartIs}
use Rattle.demands.specs.Calls.{Gave, Calls, BankCalls, none, call, answered, bank_words_to, Ended, Stays}

-- a call on words of a sound planner moves that planner
pub call_moves : (p : Planner) (ws bank out : List ℕ) (r : ℕ) (ws' bank' out' : List ℕ) → WordsOf p ws → length bank ≡ 136 → length out ≡ 11 → StepIs ws bank out r ws' bank' out' → (r ≡ 0) × Moved p bank ws' bank' out'
call_moves p ws bank out r ws' bank' out' h b o s =
    let n : length ws ≡ 39 = ap length h.stored.is ∙ thirty_nine p.course p.counts in
    let m : StepOf ws bank out r ws' bank' out' = rw (eq-eqb (length ws) 39 n, eq-eqb (length bank) 136 b, eq-eqb (length out) 11 o) at s in
    by m.loaded m.is m.step
  where
    by : (l : Option Planner) → LoadedIs ws l → StepFrom l ws bank out r ws' bank' out' → (r ≡ 0) × Moved p bank ws' bank' out'
    by (Some q) k t = (t.0, subst (λ (x : Planner). Moved x bank ws' bank' out') (one_planner q p ws k h) t.1)
    by None k t = absurd (k p h)

-- the theorem for hosts: words that have c to come give the first of c, and have the rest to come
pub host_step : (ws bank out : List ℕ) (r : ℕ) (ws' bank' out' : List ℕ) (c : Coming) → Has ws c → length bank ≡ 136 → length out ≡ 11 → StepIs ws bank out r ws' bank' out' → Gave c bank r ws' bank' out'
host_step ws bank out r ws' bank' out' c h b o s =
    let m = call_moves h.planner ws bank out r ws' bank' out' h.words b o s in
    let e = h.coming in
    record {
      answer = m.0;
      out = m.1.out ∙ ap (λ (d : Coming). answer_words (answer_of d.entries d.end)) e;
      set = m.1.set ∙ ap (λ (d : Coming). words_after bank (sets_next d.entries d.left)) e;
      has = subst (λ (d : Coming). Has ws' (next_of d.entries d.left d.end)) e m.1.has;
    }

pub any_bank : {ws bank ws' bank' : List ℕ} {outs : List (List ℕ)} → BankCalls ws bank outs ws' bank' → Calls ws outs ws'
any_bank none = none
any_bank (call ws bank out r ws₁ bank₁ out' b o s rest) = call ws bank out r ws₁ bank₁ out' b o s (any_bank rest)

abbrev to_come : List Entry → List Entry → End → Coming
to_come es left e = record { entries = es; left = left; end = e }

pub calls_give : {ws ws' : List ℕ} {outs : List (List ℕ)} (es left : List Entry) (e : End) → Has ws (to_come es left e) → Calls ws outs ws' → outs ≡ answered (length outs) es e
unfolding answered answers
calls_give es left e h none = refl
calls_give [] left e h (call ws bank out r ws₁ bank₁ out' b o s rest) =
    let g = host_step ws bank out r ws₁ bank₁ out' (to_come [] left e) h b o s in
    λ j. g.out j ∷ calls_give [] [] e g.has rest j
calls_give (x ∷ es) left e h (call ws bank out r ws₁ bank₁ out' b o s rest) =
    let g = host_step ws bank out r ws₁ bank₁ out' (to_come (x ∷ es) left e) h b o s in
    λ j. g.out j ∷ calls_give es left e g.has rest j

pub calls_set : {ws bank ws' bank' : List ℕ} {outs : List (List ℕ)} (es left : List Entry) (e : End) → Has ws (to_come es left e) → BankCalls ws bank outs ws' bank' → bank' ≡ bank_words_to (length outs) es left bank
unfolding bank_words_to words_after
calls_set es left e h none = refl
calls_set [] left e h (call ws bank out r ws₁ bank₁ out' {outs = outs} b o s rest) =
    let g = host_step ws bank out r ws₁ bank₁ out' (to_come [] left e) h b o s in
    calls_set [] [] e g.has rest ∙ ap (bank_words_to (length outs) [] []) g.set
calls_set (x ∷ es) left e h (call ws bank out r ws₁ bank₁ out' {outs = outs} b o s rest) =
    let g = host_step ws bank out r ws₁ bank₁ out' (to_come (x ∷ es) left e) h b o s in
    calls_set es left e g.has rest ∙ ap (bank_words_to (length outs) es left) g.set

-- ---- from `visor_start` on

module _ (object request ws ws₁ : List ℕ) (r : ℕ) (q : length request ≡ 7) (l : length ws ≡ 39) (s : StartIs object request ws r ws₁) where
  pub started : Has ws₁ (coming_of (plan_of (host_request object request)))
  started = let m = rw (eq-eqb (length request) 7 q, eq-eqb (length ws) 39 l) at s in m.1

  pub plan_stepped : {ws' : List ℕ} {outs : List (List ℕ)} → Calls ws₁ outs ws' → outs ≡ answered (length outs) (plan_of (host_request object request)).entries (end_of (plan_of (host_request object request)))
  plan_stepped calls = calls_give (plan_of (host_request object request)).entries (plan_of (host_request object request)).left (end_of (plan_of (host_request object request))) started calls

  pub bank_stepped : {bank ws' bank' : List ℕ} {outs : List (List ℕ)} → BankCalls ws₁ bank outs ws' bank' → bank' ≡ bank_words_to (length outs) (plan_of (host_request object request)).entries (plan_of (host_request object request)).left bank
  bank_stepped calls = calls_set (plan_of (host_request object request)).entries (plan_of (host_request object request)).left (end_of (plan_of (host_request object request))) started calls

-- the call that answers the end leaves such words
pub call_ends : (ws bank out : List ℕ) (r : ℕ) (ws' bank' out' : List ℕ) (left : List Entry) (e : End) → Has ws (to_come [] left e) → length bank ≡ 136 → length out ≡ 11 → StepIs ws bank out r ws' bank' out' → Ended ws' e
call_ends ws bank out r ws' bank' out' left e h b o s =
    let p = h.planner in
    let m = call_moves p ws bank out r ws' bank' out' h.words b o s in
    let k = h.words.sound in
    let f = k.few in
    let none = ap (λ (c : Coming). c.entries) h.coming in
    let x = ap (λ (c : Coming). c.end) h.coming in
    record {
      verdict = (coming p).end.verdict;
      counts = p.counts;
      words = record { stored = record { is = m.1.over none; fits = tt }; sound = record { course = tt; counts = k.counts; few = omega arith } };
      end = sym x ∙ counts_at_end p none;
    }

-- and every later one leaves all as it is, and answers the same end
pub end_stays : (ws bank out : List ℕ) (r : ℕ) (ws' bank' out' : List ℕ) (x : End) → Ended ws x → length bank ≡ 136 → length out ≡ 11 → StepIs ws bank out r ws' bank' out' → Stays ws bank x r ws' bank' out'
unfolding coming counted_all words_after
end_stays ws bank out r ws' bank' out' x h b o s =
    let m = call_moves (planner_at (course.Over h.verdict) h.counts) ws bank out r ws' bank' out' h.words b o s in
    record { answer = m.0; same_state = m.1.over refl ∙ sym h.words.stored.is; same_bank = m.1.set; out = m.1.out ∙ ap end_words (sym h.end) }
