-- A number that no field of a request holds is refused as it stands and as it is cut, so both requests have one plan.
-- Assumes nothing.
use Rattle.std.specs.Prelude.{Err}
use mathlib.Core.Path.{◌≡◌, refl, sym, ap, ◌∙◌}
use mathlib.Core.Bool.{Bool, true, false, cond, true≢false, or-true}
use mathlib.Core.List.{List}
use mathlib.Core.Logic.{inl, inr}
use Prim.Native.Nat.{ℕ, suc, ◌-◌, ◌%◌, ◌^◌, ◌<◌, ◌≤◌}
use native.Mathlib.Omega.{arith}
use borrow.Author.Tests.{ltb-true, ltb-false, lt-ltb, ne_eqb}
use lib.Dec.{ltb, eqb}
use lib.ListN.{get_or}
use lib.IntN.{pos, negsuc}
use mir.Val.{sel}
use Rattle.signed.specs.Bound.{or_false}
use Rattle.object.specs.declared.types.Scissor.{Scissor}
use Rattle.object.specs.declared.types.Verdict.TheVariants as verdict
use Rattle.checks.specs.Check.{opcode_bad, edge_bad, scissor_bad, refused_by, short, checked_of}
use Rattle.plan.specs.Request as plan
use Rattle.plan.specs.Out.{plan_out, refuse}
use Rattle.plan.specs.Whole.{checked_out, plan_with, plan_of}
use Rattle.request.specs.Host.{with_bytes, edge_in, edges_in, scissor_in, host_request, edges_kept, scissor_kept, request_kept, RefusedAt, Alike}

-- ---- edges

edge_small : (n : ℕ) → n < 1024 → edge_in n ≡ pos n
edge_small n h = rw (lt-ltb n (2 ^ 63) (omega arith))

edge_beyond : (t : Bool) (n m : ℕ) → 1024 ≤ n → edge_bad (sel t (pos n) (negsuc m)) ≡ true
edge_beyond true n m h = rw (lt-ltb 1023 n (omega arith)) (or-true (ltb n 0))
edge_beyond false n m h = refl

edge_large : (n : ℕ) → 1024 ≤ n → edge_bad (edge_in n) ≡ true
edge_large n h = edge_beyond (ltb n (2 ^ 63)) n (2 ^ 64 - suc n) h

-- a cut edge is bad where the edge is, and else it is the edge
edge_alike : (t : Bool) (n : ℕ) → ltb n 1024 ≡ t → edge_bad (cond t (pos n) (negsuc 0)) ≡ edge_bad (edge_in n)
edge_alike true n e = ap edge_bad (sym (edge_small n (ltb-true n 1024 e)))
edge_alike false n e = sym (edge_large n (ltb-false n 1024 e))

edge_exact : (t : Bool) (n : ℕ) → ltb n 1024 ≡ t → edge_bad (edge_in n) ≡ false → cond t (pos n) (negsuc 0) ≡ edge_in n
edge_exact true n e b = sym (edge_small n (ltb-true n 1024 e))
edge_exact false n e b = absurd (true≢false (sym (edge_large n (ltb-false n 1024 e)) ∙ b))

-- a cut scissor likewise
module _ (ulx uly lrx lry : ℕ) where
  pub edges_alike : scissor_bad (edges_kept ulx uly lrx lry) ≡ scissor_bad (edges_in ulx uly lrx lry)
  unfolding scissor_bad
  edges_alike = rw (edge_alike _ ulx refl, edge_alike _ uly refl, edge_alike _ lrx refl, edge_alike _ lry refl)

  pub edges_exact : scissor_bad (edges_in ulx uly lrx lry) ≡ false → edges_kept ulx uly lrx lry ≡ edges_in ulx uly lrx lry
  unfolding scissor_bad
  edges_exact e =
      let a = or_false _ _ e in
      let b = or_false _ _ a.1 in
      let c = or_false _ _ b.1 in
      let d = or_false _ _ c.1 in
      λ i. record { ulx = edge_exact _ ulx refl a.0 i; uly = edge_exact _ uly refl b.0 i; lrx = edge_exact _ lrx refl c.0 i; lry = edge_exact _ lry refl d.0 i }

scissor_alike : (ws : List ℕ) → scissor_bad (scissor_kept ws) ≡ scissor_bad (scissor_in ws)
scissor_alike ws = edges_alike (get_or ws 1 0) (get_or ws 2 0) (get_or ws 3 0) (get_or ws 4 0)

scissor_exact : (ws : List ℕ) → scissor_bad (scissor_in ws) ≡ false → scissor_kept ws ≡ scissor_in ws
scissor_exact ws = edges_exact (get_or ws 1 0) (get_or ws 2 0) (get_or ws 3 0) (get_or ws 4 0)

-- ---- plans

module _ (bytes : List ℕ) (opcode : ℕ) (mode address : ℕ) where
  abbrev asks : Scissor → plan.Request
  asks s = record { bytes = bytes; opcode = opcode; scissor = s; mode = mode; address = address }

  refused : (a b : Bool) (s s' : Scissor) → checked_out (refused_by a verdict.Opcode (refused_by b verdict.Short (Err verdict.Scissor))) (asks s)
      ≡ checked_out (refused_by a verdict.Opcode (refused_by b verdict.Short (Err verdict.Scissor))) (asks s')
  unfolding checked_out
  refused true b s s' = refl
  refused false true s s' = refl
  refused false false s s' = refl

  -- two bad scissors
  scissors_bad : (s s' : Scissor) → scissor_bad s ≡ true → scissor_bad s' ≡ true → plan_of (asks s) ≡ plan_of (asks s')
  unfolding plan_of plan_with checked_of
  scissors_bad s s' e e' = rw (e, e') (ap plan_out (refused (opcode_bad opcode) (short 4 opcode bytes) s s'))

  scissor_plan : (t : Bool) (ws : List ℕ) → scissor_bad (scissor_in ws) ≡ t → plan_of (asks (scissor_kept ws)) ≡ plan_of (asks (scissor_in ws))
  scissor_plan true ws e = scissors_bad (scissor_kept ws) (scissor_in ws) (scissor_alike ws ∙ e) e
  scissor_plan false ws e = ap (λ (s : Scissor). plan_of (asks s)) (scissor_exact ws e)

-- an opcode that is bad
opcode_refused : (q : plan.Request) → opcode_bad q.opcode ≡ true → plan_of q ≡ plan_out (refuse verdict.Opcode)
unfolding plan_of plan_with checked_out checked_of
opcode_refused q e = rw e

opcode_plan : (t : Bool) (n : ℕ) (bytes : List ℕ) (s : Scissor) (mode address : ℕ) → ltb n 256 ≡ t → plan_of (asks bytes (cond t n 0) mode address s) ≡ plan_of (asks bytes n mode address s)
opcode_plan true n bytes s mode address e = refl
opcode_plan false n bytes s mode address e =
    let h = ltb-false n 256 e in
    let nine : eqb n 9 ≡ false = ne_eqb n 9 (λ i. omega arith) in
    let ten : eqb n 10 ≡ false = ne_eqb n 10 (λ i. omega arith) in
    opcode_refused (asks bytes 0 mode address s) refl ∙ sym (opcode_refused (asks bytes n mode address s) (rw (nine, ten)))

pub cut : (bytes ws : List ℕ) → plan_of (with_bytes bytes (request_kept ws)) ≡ plan_of (host_request bytes ws)
unfolding host_request
cut bytes ws = scissor_plan bytes _ _ _ _ ws refl ∙ opcode_plan _ (get_or ws 0 0) bytes (scissor_in ws) _ _ refl

-- ---- requests

refused_at : (q : plan.Request) (a b : Bool) → opcode_bad q.opcode ≡ a → short 4 q.opcode q.bytes ≡ b → scissor_bad q.scissor ≡ true → RefusedAt q
unfolding checked_of
refused_at q true b h k l = record { verdict = verdict.Opcode; is = rw h }
refused_at q false true h k l = record { verdict = verdict.Short; is = rw (h, k) }
refused_at q false false h k l = record { verdict = verdict.Scissor; is = rw (h, k, l) }

opcode_at : (q : plan.Request) → opcode_bad q.opcode ≡ true → RefusedAt q
unfolding checked_of
opcode_at q h = record { verdict = verdict.Opcode; is = rw h }

module _ (bytes ws : List ℕ) where
  opcode_alike : (t : Bool) → ltb (get_or ws 0 0) 256 ≡ t → scissor_bad (scissor_in ws) ≡ false → Alike (asks bytes (cond t (get_or ws 0 0) 0) (get_or ws 5 0 % 2 ^ 32) (get_or ws 6 0) (scissor_kept ws)) (asks bytes (get_or ws 0 0) (get_or ws 5 0 % 2 ^ 32) (get_or ws 6 0) (scissor_in ws))
  opcode_alike true e s = inl (ap (asks bytes (get_or ws 0 0) (get_or ws 5 0 % 2 ^ 32) (get_or ws 6 0)) (scissor_exact ws s))
  opcode_alike false e s =
      let n = get_or ws 0 0 in
      let h = ltb-false n 256 e in
      let nine : eqb n 9 ≡ false = ne_eqb n 9 (λ i. omega arith) in
      let ten : eqb n 10 ≡ false = ne_eqb n 10 (λ i. omega arith) in
      inr (opcode_at (asks bytes 0 _ _ _) refl, opcode_at (asks bytes n _ _ _) (rw (nine, ten)))

  scissor_asks : (t : Bool) → scissor_bad (scissor_in ws) ≡ t → Alike (with_bytes bytes (request_kept ws)) (host_request bytes ws)
  unfolding host_request
  scissor_asks true e = inr (refused_at (with_bytes bytes (request_kept ws)) _ _ refl refl (scissor_alike ws ∙ e), refused_at (host_request bytes ws) _ _ refl refl e)
  scissor_asks false e = opcode_alike _ refl e

  pub alike : Alike (with_bytes bytes (request_kept ws)) (host_request bytes ws)
  alike = scissor_asks _ refl
