-- A host's request: seven words, and what the code keeps of them.
-- Assumes nothing.
use Rattle.std.specs.Prelude.{◌≡◌, ◌≢◌, ◌⊎◌, cond, List, ℕ, ◌%◌, ◌^◌, ltb, length, get_or, ℤ, pos, negsuc, Result, Err, MatchResult}
use Rattle.std.specs.Int.{w64}
use Rattle.std.proofs.Common.{to_z}
use Rattle.object.specs.declared.types.Scissor.{Scissor}
use Rattle.object.specs.declared.types.Verdict.{Verdict}
use Rattle.checks.specs.Check.{checked_of}
use Rattle.plan.specs.Request as plan
use Rattle.plan.specs.Whole.{plan_of}
use Rattle.request.specs.declared.types.Request.{Request}

-- the object's bytes, and what is asked
abbrev pub with_bytes : List ℕ → Request → plan.Request
with_bytes bytes r = record { bytes = bytes; opcode = r.opcode; scissor = r.scissor; mode = r.mode; address = r.address }

-- an edge of a host is a signed number
abbrev pub edge_in : ℕ → ℤ
edge_in n = to_z w64 n

abbrev pub edges_in : (ulx uly lrx lry : ℕ) → Scissor
edges_in ulx uly lrx lry = record { ulx = edge_in ulx; uly = edge_in uly; lrx = edge_in lrx; lry = edge_in lry }

abbrev pub scissor_in : List ℕ → Scissor
scissor_in ws = edges_in (get_or ws 1 0) (get_or ws 2 0) (get_or ws 3 0) (get_or ws 4 0)

-- opcode, the scissor's edges, render mode, address
unfoldable pub host_request : List ℕ → List ℕ → plan.Request
host_request bytes ws = record { bytes = bytes; opcode = get_or ws 0 0; scissor = scissor_in ws; mode = get_or ws 5 0 % 2 ^ 32; address = get_or ws 6 0 }

-- what the code keeps of them
abbrev pub opcode_kept : ℕ → ℕ
opcode_kept n = cond (ltb n 256) n 0

abbrev pub edge_kept : ℕ → ℤ
edge_kept n = cond (ltb n 1024) (pos n) (negsuc 0)

abbrev pub edges_kept : (ulx uly lrx lry : ℕ) → Scissor
edges_kept ulx uly lrx lry = record { ulx = edge_kept ulx; uly = edge_kept uly; lrx = edge_kept lrx; lry = edge_kept lry }

abbrev pub scissor_kept : List ℕ → Scissor
scissor_kept ws = edges_kept (get_or ws 1 0) (get_or ws 2 0) (get_or ws 3 0) (get_or ws 4 0)

abbrev pub request_kept : List ℕ → Request
request_kept ws = record { opcode = opcode_kept (get_or ws 0 0); scissor = scissor_kept ws; mode = get_or ws 5 0 % 2 ^ 32; address = get_or ws 6 0 }

-- the checks refuse a request
pub record RefusedAt (q : plan.Request) : Type 0 where
  pub verdict : Verdict
  pub is : checked_of 4 q.bytes q.opcode q.scissor ≡ Err verdict

-- a request as its words stand, or both that and what is kept of it are refused
abbrev pub Alike : plan.Request → plan.Request → Type 0
Alike q q' = (q ≡ q') ⊎ (RefusedAt q × RefusedAt q')

-- what is kept of the words, and the plan, which is that of the words as they stand
pub record KeptIs (ws : List ℕ) (r : Request) : Type 0 where
  pub plan : (bytes : List ℕ) → plan_of (with_bytes bytes r) ≡ plan_of (host_request bytes ws)
  pub alike : (bytes : List ℕ) → Alike (with_bytes bytes r) (host_request bytes ws)

-- a request out of a host's words, which are seven; any other number of them makes none
abbrev pub HostIs : {E : Type 0} → List ℕ → Result Request E → Type 0
HostIs ws r = MatchResult r (λ q. (length ws ≡ 7) × KeptIs ws q) (λ _. length ws ≢ 7)
