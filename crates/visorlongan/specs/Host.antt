-- What the exported functions leave to the host, over the plan of the request that its words make: docs/SPECIFICATION.md, section 2.
-- Assumes nothing.
use Rattle.std.specs.Prelude.{cond, ◌&&◌, List, ℕ, eqb, length}
use Rattle.plan.specs.Whole.{plan_of}
use Rattle.plan.specs.Run.{end_of}
use Rattle.giving.specs.Host.{RanWords, run_words, end_numbers}
use Rattle.applying.specs.Applied.{Applied, applied, applied_of}
use Rattle.request.specs.Host.{host_request}

-- the answer, and the words of bank, plan and end as the call leaves them
pub record Left : Type 0 where
  pub answer : ℕ
  pub bank : List ℕ
  pub plan : List ℕ
  pub end : List ℕ

abbrev pub left : ℕ → List ℕ → List ℕ → List ℕ → Left
left answer bank plan end = record { answer = answer; bank = bank; plan = plan; end = end }

abbrev pub ran_left : RanWords → Left
ran_left r = left 0 r.bank r.buffer (end_numbers r.end)

-- a whole run over the words as they stand, or 1 and nothing changed where request, bank or end has another number of words
unfoldable pub host_run : (object request bank plan end : List ℕ) → Left
host_run object request bank plan end =
    cond (eqb (length request) 7 && (eqb (length bank) 136 && eqb (length end) 4))
    (ran_left (run_words (plan_of (host_request object request)) plan bank))
    (left 1 bank plan end)

-- the end of the whole plan, likewise
pub record Counted : Type 0 where
  pub answer : ℕ
  pub end : List ℕ

abbrev pub counted : ℕ → List ℕ → Counted
counted answer end = record { answer = answer; end = end }

unfoldable pub host_count : (object request end : List ℕ) → Counted
host_count object request end =
    cond (eqb (length request) 7 && eqb (length end) 4)
    (counted 0 (end_numbers (end_of (plan_of (host_request object request)))))
    (counted 1 end)

-- one entry done to a bank, or 1 and nothing changed where entry or bank has another number of words or the words are no entry's
unfoldable pub host_apply : (entry bank : List ℕ) → Applied
host_apply entry bank = cond (eqb (length entry) 11 && eqb (length bank) 136) (applied_of entry bank) (applied 1 bank)
