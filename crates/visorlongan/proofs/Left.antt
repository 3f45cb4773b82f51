-- What the exported functions leave: refused calls, and a run whose parts keep their promises. Assumes nothing.
use mathlib.Core.Path.{◌≡◌, ap, ◌∙◌}
use mathlib.Core.List.{List}
use Prim.Native.Nat.{ℕ}
use lib.ListN.{length}
use borrow.Author.Tests.{eq-eqb, ne_eqb}
use Rattle.plan.specs.declared.types.End.{End}
use Rattle.plan.specs.Out.{Plan}
use Rattle.plan.specs.Whole.{plan_of}
use Rattle.plan.specs.Run.{end_of}
use Rattle.planner.specs.Coming.{request_of}
use Rattle.runs.specs.Ran.{RanIs}
use Rattle.giving.specs.Host.{run_words, end_numbers}
use Rattle.request.specs.declared.types.Request.{Request}
use Rattle.request.specs.Host.{with_bytes, host_request}
use Rattle.applying.specs.Applied.{applied, applied_of}
use Rattle.visorlongan.specs.Host.{left, ran_left, host_run, counted, host_count, host_apply}

module _ (object request bank plan end : List ℕ) where
  pub odd_request : (length request ≡ 7 → ⊥) → left 1 bank plan end ≡ host_run object request bank plan end
  unfolding host_run
  odd_request n = rw (ne_eqb (length request) 7 n)

  pub odd_bank : length request ≡ 7 → (length bank ≡ 136 → ⊥) → left 1 bank plan end ≡ host_run object request bank plan end
  unfolding host_run
  odd_bank q n = rw (eq-eqb (length request) 7 q, ne_eqb (length bank) 136 n)

  pub odd_end : length request ≡ 7 → length bank ≡ 136 → (length end ≡ 4 → ⊥) → left 1 bank plan end ≡ host_run object request bank plan end
  unfolding host_run
  odd_end q b n = rw (eq-eqb (length request) 7 q, eq-eqb (length bank) 136 b, ne_eqb (length end) 4 n)

  fitting : length request ≡ 7 → length bank ≡ 136 → length end ≡ 4 → ran_left (run_words (plan_of (host_request object request)) plan bank) ≡ host_run object request bank plan end
  unfolding host_run
  fitting q b e = rw (eq-eqb (length request) 7 q, eq-eqb (length bank) 136 b, eq-eqb (length end) 4 e)

  pub ran : (x : Request) → ((bytes : List ℕ) → plan_of (with_bytes bytes x) ≡ plan_of (host_request bytes request)) → (bank' plan' end' : List ℕ) (r : End) → length request ≡ 7 → length bank ≡ 136 → length end ≡ 4
      → RanIs object x.opcode x.scissor x.mode x.address plan bank plan' bank' r → end' ≡ end_numbers r → left 0 bank' plan' end' ≡ host_run object request bank plan end
  ran x p bank' plan' end' r q l m h j =
      (λ n. left 0 (h.bank n) (h.buffer n) ((j ∙ ap end_numbers h.end) n))
      ∙ ap (λ (z : Plan). ran_left (run_words z plan bank)) (p object)
      ∙ fitting q l m

module _ (object request end : List ℕ) where
  pub odd_request_there : (length request ≡ 7 → ⊥) → counted 1 end ≡ host_count object request end
  unfolding host_count
  odd_request_there n = rw (ne_eqb (length request) 7 n)

  pub odd_end_there : length request ≡ 7 → (length end ≡ 4 → ⊥) → counted 1 end ≡ host_count object request end
  unfolding host_count
  odd_end_there q n = rw (eq-eqb (length request) 7 q, ne_eqb (length end) 4 n)

  counting : length request ≡ 7 → length end ≡ 4 → counted 0 (end_numbers (end_of (plan_of (host_request object request)))) ≡ host_count object request end
  unfolding host_count
  counting q e = rw (eq-eqb (length request) 7 q, eq-eqb (length end) 4 e)

  pub counts : (x : Request) → ((bytes : List ℕ) → plan_of (with_bytes bytes x) ≡ plan_of (host_request bytes request)) → (r : End) (end' : List ℕ) → length request ≡ 7 → length end ≡ 4
      → r ≡ end_of (plan_of (request_of object x.opcode x.scissor x.mode x.address)) → end' ≡ end_numbers r → counted 0 end' ≡ host_count object request end
  counts x i r end' q e j k = ap (counted 0) (k ∙ ap end_numbers j ∙ ap (λ (z : Plan). end_numbers (end_of z)) (i object)) ∙ counting q e

module _ (entry bank : List ℕ) where
  pub odd_entry : (length entry ≡ 11 → ⊥) → applied 1 bank ≡ host_apply entry bank
  unfolding host_apply
  odd_entry n = rw (ne_eqb (length entry) 11 n)

  pub odd_bank_there : length entry ≡ 11 → (length bank ≡ 136 → ⊥) → applied 1 bank ≡ host_apply entry bank
  unfolding host_apply
  odd_bank_there e n = rw (eq-eqb (length entry) 11 e, ne_eqb (length bank) 136 n)

  pub applies : length entry ≡ 11 → length bank ≡ 136 → (r : ℕ) (bank' : List ℕ) → applied r bank' ≡ applied_of entry bank → applied r bank' ≡ host_apply entry bank
  unfolding host_apply
  applies e b r bank' h = rw (eq-eqb (length entry) 11 e, eq-eqb (length bank) 136 b) h
