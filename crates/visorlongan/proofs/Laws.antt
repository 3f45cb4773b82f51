-- What `host_run` means for hosts: the run of D 10.4 on the words of a bank, and nothing changed where nothing is written. D is docs/SPECIFICATION.md.
-- Assumes nothing.
use Rattle.std.specs.Prelude.{◌≡◌, refl, Bool, true, false, cond, ◌&&◌, List, [], ℕ, eqb, length}
use Rattle.std.proofs.Common.{arith}
use Rattle.tile.specs.declared.bank.Bank.{Bank}
use Rattle.plan.specs.Out.{Plan}
use Rattle.plan.specs.Whole.{plan_of}
use Rattle.plan.specs.Run.{run_of}
use Rattle.giving.specs.Host.{run_words, bank_numbers, end_numbers}
use Rattle.giving.proofs.HostLaws.{run_end, run_bank, run_buffer, nothing_written}
use Rattle.request.specs.Host.{host_request}
use Rattle.visorlongan.specs.Host.{left, ran_left, host_run}

-- on the numbers of a bank, that is D's run: all eight tiles, the whole buffer, the end
pub host_bank : (object request plan end : List ℕ) (b : Bank) → length b.tiles ≡ 8 → (host_run object request (bank_numbers b) plan end).answer ≡ 0
    → host_run object request (bank_numbers b) plan end ≡ left 0 (bank_numbers (run_of (plan_of (host_request object request)) plan b).bank) (run_of (plan_of (host_request object request)) plan b).buffer (end_numbers (run_of (plan_of (host_request object request)) plan b).end)
unfolding host_run
host_bank object request plan end b n = by (eqb (length request) 7 && (eqb (length (bank_numbers b)) 136 && eqb (length end) 4))
  where
    p : Plan
    p = plan_of (host_request object request)

    by : (t : Bool) → (cond t (ran_left (run_words p plan (bank_numbers b))) (left 1 (bank_numbers b) plan end)).answer ≡ 0
        → cond t (ran_left (run_words p plan (bank_numbers b))) (left 1 (bank_numbers b) plan end) ≡ left 0 (bank_numbers (run_of p plan b).bank) (run_of p plan b).buffer (end_numbers (run_of p plan b).end)
    by true a = λ i. left 0 (run_bank p plan b n i) (run_buffer p plan (bank_numbers b) b i) (end_numbers (run_end p plan (bank_numbers b) b i))
    by false a = absurd (omega arith)

-- D "'Nothing written' includes the tile bank": where no entry stands and no load was refused, every word of bank and plan is as it was, whatever it held
pub host_nothing : (object request bank plan end : List ℕ) → (plan_of (host_request object request)).entries ≡ [] → (plan_of (host_request object request)).left ≡ []
    → ((host_run object request bank plan end).bank ≡ bank) × ((host_run object request bank plan end).plan ≡ plan)
unfolding host_run
host_nothing object request bank plan end e l = by (eqb (length request) 7 && (eqb (length bank) 136 && eqb (length end) 4))
  where
    p : Plan
    p = plan_of (host_request object request)

    by : (t : Bool) → ((cond t (ran_left (run_words p plan bank)) (left 1 bank plan end)).bank ≡ bank) × ((cond t (ran_left (run_words p plan bank)) (left 1 bank plan end)).plan ≡ plan)
    by true = let n = nothing_written p e l plan bank in (n.1, n.0)
    by false = (refl, refl)
