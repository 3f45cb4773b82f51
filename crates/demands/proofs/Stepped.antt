-- Demands 2 and 3 of the exported step: over any number of calls from `visor_start` on, whatever lies between them, steps after the end and refused ones included.
-- Assumes nothing.
use Rattle.std.specs.Prelude.{◌≡◌, refl, List, [], ◌∷◌, ℕ, zero, suc, length, take, map}
use Rattle.std.proofs.Common.{sym, ap, subst, ◌∙◌}
use Rattle.tile.specs.declared.bank.Bank.{Bank}
use Rattle.plan.specs.declared.types.Entry.{Entry}
use Rattle.plan.specs.declared.types.End.{End}
use Rattle.plan.specs.Whole.{plan_of}
use Rattle.plan.specs.Run.{end_of, bank_step, bank_after}
use Rattle.plan.specs.Steps.{answers, bank_to}
use Rattle.plan.specs.Demand.{drift_of, strips_of, AllNear, Apt}
use Rattle.drift.proofs.Prefix.{first_near}
use Rattle.drift.specs.Words.{entries_from, reread}
use Rattle.drift.proofs.Words.{short_entries, short_first, entry_read, reread_near}
use Rattle.giving.specs.Host.{bank_numbers}
use Rattle.giving.proofs.HostLaws.{words_step_lem, words_after_lem, eight_still}
use Rattle.request.specs.Host.{host_request}
use Rattle.stepping.specs.Host.{StartIs}
use Rattle.demands.specs.Calls.{Calls, BankCalls, answered, bank_words_to}
use Rattle.demands.proofs.Calls.{plan_stepped, bank_stepped}
use Rattle.demands.specs.Stepped.{joined}

-- ---- demand 2: `demands/Calls.plan_stepped` has the answers; the bank's words, where they are a bank's, are the numbers of the bank of as many steps

eight_after : (es : List Entry) (b : Bank) → length b.tiles ≡ 8 → length (bank_after b es).tiles ≡ 8
unfolding bank_after
eight_after [] b n = n
eight_after (e ∷ es) b n = eight_after es (bank_step b e) (eight_still b e ∙ n)

bank_numbers_lem : (n : ℕ) (es left : List Entry) (b : Bank) → length b.tiles ≡ 8 → bank_words_to n es left (bank_numbers b) ≡ bank_numbers (bank_to n es left b)
unfolding bank_words_to bank_to
bank_numbers_lem zero es left b n = refl
bank_numbers_lem (suc k) [] left b n = ap (bank_words_to k [] []) (words_after_lem left b n) ∙ bank_numbers_lem k [] [] (bank_after b left) (eight_after left b n)
bank_numbers_lem (suc k) (x ∷ es) left b n = ap (bank_words_to k es left) (words_step_lem b n x) ∙ bank_numbers_lem k es left (bank_step b x) (eight_still b x ∙ n)

-- ---- the entries that the answers' words read back as: an end is none

ends_read : (k : ℕ) (e : End) → entries_from k (joined (answered k [] e)) ≡ []
unfolding entries_from answered answers
ends_read zero e = refl
ends_read (suc k) e = ends_read k e

pub answers_read : (k : ℕ) (es : List Entry) (e : End) → entries_from k (joined (answered k es e)) ≡ map reread (take k es)
unfolding entries_from answered answers
answers_read zero es e = refl
answers_read (suc k) [] e = ends_read (suc k) e
answers_read (suc k) (x ∷ es) e = entry_read k x (joined (answered k es e)) ∙ ap (λ (l : List Entry). reread x ∷ l) (answers_read k es e)

module _ (object request ws ws₁ : List ℕ) (r : ℕ) (q : length request ≡ 7) (l : length ws ≡ 39) (start : StartIs object request ws r ws₁) where
  pub host_steps_bank : {ws' bank' : List ℕ} {outs : List (List ℕ)} (b : Bank) → length b.tiles ≡ 8 → BankCalls ws₁ (bank_numbers b) outs ws' bank'
      → bank' ≡ bank_numbers (bank_to (length outs) (plan_of (host_request object request)).entries (plan_of (host_request object request)).left b)
  host_steps_bank {outs = outs} b n calls =
      let p = plan_of (host_request object request) in
      bank_stepped object request ws ws₁ r q l start calls ∙ bank_numbers_lem (length outs) p.entries p.left b n

  -- every line of every rectangle in the words that the exported steps have answered
  pub host_steps_near : Apt (host_request object request) → {ws' : List ℕ} {outs : List (List ℕ)} → Calls ws₁ outs ws'
      → AllNear (drift_of (host_request object request)) 0 (strips_of (drift_of (host_request object request))) (entries_from (length outs) (joined outs))
  host_steps_near apt {outs = outs} calls =
      let a = host_request object request in
      let d = drift_of a in
      let es = (plan_of a).entries in
      let k = length outs in
      subst (AllNear d 0 (strips_of d)) (sym (ap (λ (os : List (List ℕ)). entries_from k (joined os)) (plan_stepped object request ws ws₁ r q l start calls) ∙ answers_read k es (end_of (plan_of a))))
      (reread_near d 0 (strips_of d) (take k es) (short_first k es (short_entries a apt.scaled)) (first_near a apt k))
