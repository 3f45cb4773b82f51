-- What steps with a bank answer: digests of the answers, to the end and three steps beyond it, and of the bank after them; and all that is replayed of a record.
-- Assumes nothing.
use Rattle.std.specs.Prelude.{cond, Option, Some, None, List, [], ◌∷◌, ◌++◌, ℕ, ◌+◌, ◌/◌, ltb, length, Ok, Err}
use Rattle.tile.specs.declared.bank.Bank.{Bank}
use Rattle.plan.specs.declared.types.Entry.{Entry}
use Rattle.plan.specs.Steps.{Answer}
use Rattle.plan.specs.Out.{Plan}
use Rattle.plan.specs.Run.{entry_words, end_of}
use Rattle.plan.specs.Steps.{Coming, coming_of, answers, bank_to}
use Rattle.giving.specs.Host.{bank_numbers, end_numbers}
use Rattle.digest.specs.Fnv.{basis, digest_from, digest_of}
use Rattle.replay.specs.declared.steps.Digests.{Digests}
use Rattle.replay.specs.declared.record.Replayed.{Replayed}
use Rattle.replay.specs.Outcome.{outcome_of}

-- an entry's eleven words, and an end's four numbers
unfoldable pub answer_words : Answer → List ℕ
answer_words (Ok e) = entry_words e
answer_words (Err e) = end_numbers e

unfoldable pub answers_words : List Answer → List ℕ
answers_words [] = []
answers_words (a ∷ rest) = answer_words a ++ answers_words rest

-- whether an answer is an end
unfoldable pub ends_in : Answer → ℕ
ends_in (Ok e) = 0
ends_in (Err e) = 1

-- the steps that answer these entries, the end, and the end three times more
abbrev pub beyond : List Entry → ℕ
beyond es = length es + 4

-- after words that have been digested
unfoldable pub stepped_from : ℕ → Coming → Bank → Digests
stepped_from h k b =
    let n = beyond k.entries in
    record { answers = digest_from h (answers_words (answers n k.entries k.end)); bank = digest_of (bank_numbers (bank_to n k.entries k.left b)) }

abbrev pub stepped_of : Plan → Bank → Digests
stepped_of p b = stepped_from basis (coming_of p) b

-- where a plan is longer than a chunk of so many words, a run into the chunk and then steps answer what the steps alone answer
unfoldable pub mixed_of : Plan → (chunk : ℕ) → Bank → Option Digests
mixed_of p chunk b = cond (ltb (chunk / 11) (length p.entries)) (Some (stepped_of p b)) None

unfoldable pub replayed_of : Plan → (room chunk : ℕ) → Bank → Replayed
replayed_of p room chunk b = record { run = outcome_of p room (bank_numbers b); end = end_of p; steps = stepped_of p b; mixed = mixed_of p chunk b }
