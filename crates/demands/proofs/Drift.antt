-- Demand 3 of the planner: over any list of steps from a fresh planner, with a bank or without, steps after the end and refused ones included; over a whole run into any buffer, its entries read back from the buffer's words; and over the words that the exported run leaves.
-- Assumes nothing.
use Rattle.std.specs.Prelude.{◌≡◌, Bool, true, false, cond, ◌&&◌, List, [], ℕ, eqb, length, get_or}
use Rattle.std.proofs.Common.{sym, ap, subst, ◌∙◌, arith}
use Rattle.object.specs.declared.types.Scissor.{Scissor}
use Rattle.tile.specs.declared.bank.Bank.{Bank}
use Rattle.plan.specs.declared.types.Entry.{Entry}
use Rattle.plan.specs.Steps.{Answer}
use Rattle.plan.specs.declared.types.End.{End}
use Rattle.plan.specs.Request.{Request}
use Rattle.plan.specs.Whole.{plan_of}
use Rattle.plan.specs.Demand.{drift_of, strips_of, AllNear, Apt}
use Rattle.drift.specs.Prefix.{entries_in}
use Rattle.drift.proofs.Prefix.{given_is, first_near}
use Rattle.drift.specs.Words.{entries_from}
use Rattle.drift.proofs.Words.{run_near}
use Rattle.planner.specs.Planner.{Planner}
use Rattle.giving.specs.Host.{end_numbers, run_words}
use Rattle.giving.proofs.HostLaws.{run_end, run_buffer}
use Rattle.planner.specs.Coming.{Fresh, request_of}
use Rattle.runs.specs.Ran.{RanIs}
use Rattle.request.specs.Host.{host_request}
use Rattle.visorlongan.specs.Host.{left, ran_left, host_run}
use Rattle.demands.specs.Steps.{Steps, StepsAlone}
use Rattle.demands.proofs.Steps.{with_bank, answered_is}

module _ (bytes : List ℕ) (opcode : ℕ) (scissor : Scissor) (mode address : ℕ) (apt : Apt (request_of bytes opcode scissor mode address)) where
  -- every line of every rectangle among the answers of any list of steps
  pub steps_near : (p : Planner) → Fresh bytes opcode scissor mode address p → {b : Bank} {answered : List Answer} {p' : Planner} {b' : Bank} → Steps p b answered p' b'
      → AllNear (drift_of (request_of bytes opcode scissor mode address)) 0 (strips_of (drift_of (request_of bytes opcode scissor mode address))) (entries_in answered)
  steps_near p f {b} {answered} r =
      subst (λ (es : List Entry). AllNear (drift_of (request_of bytes opcode scissor mode address)) 0 (strips_of (drift_of (request_of bytes opcode scissor mode address))) es)
      (sym (ap entries_in (answered_is bytes opcode scissor mode address p f r) ∙ given_is (length answered) (plan_of (request_of bytes opcode scissor mode address)).entries _))
      (first_near (request_of bytes opcode scissor mode address) apt (length answered))

  -- the same of any list of steps without a bank
  pub alone_near : (p : Planner) → Fresh bytes opcode scissor mode address p → {answered : List Answer} {p' : Planner} → StepsAlone p answered p'
      → AllNear (drift_of (request_of bytes opcode scissor mode address)) 0 (strips_of (drift_of (request_of bytes opcode scissor mode address))) (entries_in answered)
  alone_near p f r = steps_near p f (with_bank r (record { tiles = [] })).1

  -- every line of every rectangle that a whole run has written, by the end's count of entries
  pub ran_near : (buf ws out ws' : List ℕ) (r : End) → RanIs bytes opcode scissor mode address buf ws out ws' r
      → AllNear (drift_of (request_of bytes opcode scissor mode address)) 0 (strips_of (drift_of (request_of bytes opcode scissor mode address))) (entries_from r.entries out)
  ran_near buf ws out ws' r h =
      let q = request_of bytes opcode scissor mode address in
      let b : Bank = record { tiles = [] } in
      rw (h.end, h.buffer, run_end (plan_of q) buf ws b, run_buffer (plan_of q) buf ws b) (run_near q apt buf b)

-- every line of every rectangle in the words that the exported run leaves, by the entries that its end counts
pub host_near : (object request bank plan end : List ℕ) → Apt (host_request object request) → (host_run object request bank plan end).answer ≡ 0
    → AllNear (drift_of (host_request object request)) 0 (strips_of (drift_of (host_request object request))) (entries_from (get_or (host_run object request bank plan end).end 1 0) (host_run object request bank plan end).plan)
unfolding host_run end_numbers
host_near object request bank plan end apt = by (eqb (length request) 7 && (eqb (length bank) 136 && eqb (length end) 4))
  where
    q : Request
    q = host_request object request

    b : Bank
    b = record { tiles = [] }

    by : (t : Bool) → (cond t (ran_left (run_words (plan_of q) plan bank)) (left 1 bank plan end)).answer ≡ 0
        → AllNear (drift_of q) 0 (strips_of (drift_of q)) (entries_from (get_or (cond t (ran_left (run_words (plan_of q) plan bank)) (left 1 bank plan end)).end 1 0) (cond t (ran_left (run_words (plan_of q) plan bank)) (left 1 bank plan end)).plan)
    by true a = rw (run_end (plan_of q) plan bank b, run_buffer (plan_of q) plan bank b) (run_near q apt plan b)
    by false a = absurd (omega arith)
