-- The pieces of a plan's text, joined: calls one after another until one says that it is done write the whole text, and any fewer a beginning of it. D is docs/SPECIFICATION.md, section 12.
-- Assumes nothing.
use Rattle.std.specs.Prelude.{◌≡◌, refl, Bool, true, false, cond, List, [], ◌∷◌, ◌++◌, ℕ, suc, ◌-◌, ◌≤◌, ◌<◌, ltb, length, take, drop}
use Rattle.std.proofs.Common.{sym, ap, ◌∙◌, append_assoc, append-nil, arith, length-append, length-drop, take_at, le-ltb}
use Rattle.std.specs.Option.{is_some}
use Rattle.object.specs.declared.types.Scissor.{Scissor}
use Rattle.plan.specs.declared.types.Entry.{Entry}
use Rattle.plan.specs.declared.types.End.{End}
use Rattle.plan.specs.Out.{Plan}
use Rattle.plan.specs.Steps.{Coming, coming_of, next_of}
use Rattle.plan.specs.Whole.{plan_of}
use Rattle.planner.specs.Planner.{Planner}
use Rattle.planner.specs.Coming.{coming, Fresh, request_of}
use Rattle.show.specs.declared.text.Chunk as code
use Rattle.lines.specs.Text.{entry_text, end_text, entries_text, plan_text}
use Rattle.show.specs.Chunk.{Chunk, nothing, and_then, chunk_of, chunk, ChunkIs}
use Rattle.show.specs.Case.{case_plan, CaseIs}

-- calls one after another, each on the planner last handed back, into bytes of any number; the bytes that they write, joined, and whether the last is done
pub data Calls : Planner → List ℕ → Bool → Planner → Type 0 where
  none : {p : Planner} → Calls p [] false p
  last : {p : Planner} (out out' : List ℕ) (r : code.Chunk) → ChunkIs (coming p) out out' r → is_some r.end ≡ true → Calls p (take r.count out') true r.planner
  more : {p : Planner} {text : List ℕ} {done : Bool} {p' : Planner} (out out' : List ℕ) (r : code.Chunk) → ChunkIs (coming p) out out' r → is_some r.end ≡ false → Calls r.planner text done p'
      → Calls p (take r.count out' ++ text) done p'

-- the text of what is to come, and of what is left of it
abbrev pub coming_text : Coming → List ℕ
coming_text k = entries_text k.entries ++ end_text k.end

abbrev pub left_text : (done : Bool) → Coming → List ℕ
left_text done k = cond done [] (coming_text k)

-- ---- one call

-- a call with room for no line, or one that writes a line and goes on
line_text : (t : Bool) (k : Coming) (line : List ℕ) (c : Chunk) → coming_text k ≡ line ++ (c.text ++ left_text c.done c.rest)
    → coming_text k ≡ (cond t (nothing k) (and_then line c)).text ++ left_text (cond t (nothing k) (and_then line c)).done (cond t (nothing k) (and_then line c)).rest
line_text true k line c h = refl
line_text false k line c h = h ∙ sym (append_assoc line c.text (left_text c.done c.rest))

chunk_text : (room : ℕ) (es left : List Entry) (e : End) → entries_text es ++ end_text e ≡ (chunk_of room es left e).text ++ left_text (chunk_of room es left e).done (chunk_of room es left e).rest
unfolding chunk_of entries_text
chunk_text room [] left e = by (ltb room 128)
  where
    by : (t : Bool) → let c = cond t (nothing (record { entries = []; left = left; end = e })) (record { text = end_text e; rest = next_of [] left e; done = true }) in end_text e ≡ c.text ++ left_text c.done c.rest
    by true = refl
    by false = sym (append-nil (end_text e))
chunk_text room (x ∷ es) left e =
    line_text (ltb room 128) (record { entries = x ∷ es; left = left; end = e }) (entry_text x) (chunk_of (room - length (entry_text x)) es left e) (
    append_assoc (entry_text x) (entries_text es) (end_text e) ∙ ap (λ (t : List ℕ). entry_text x ++ t) (chunk_text (room - length (entry_text x)) es left e))

-- no call leaves more to come, and one with room for a line leaves less unless it is done
either_most : (t : Bool) (a b : Chunk) (n : ℕ) → length a.rest.entries ≤ n → length b.rest.entries ≤ n → length (cond t a b).rest.entries ≤ n
either_most true a b n h i = h
either_most false a b n h i = i

chunk_most : (room : ℕ) (es left : List Entry) (e : End) → length (chunk_of room es left e).rest.entries ≤ length es
unfolding chunk_of
chunk_most room [] left e = either_most (ltb room 128) (nothing (record { entries = []; left = left; end = e })) (record { text = end_text e; rest = next_of [] left e; done = true }) 0 (omega arith) (omega arith)
chunk_most room (x ∷ es) left e =
    let h = chunk_most (room - length (entry_text x)) es left e in
    either_most (ltb room 128) (nothing (record { entries = x ∷ es; left = left; end = e })) (and_then (entry_text x) (chunk_of (room - length (entry_text x)) es left e)) (suc (length es)) (omega arith) (omega arith)

chunk_fewer : (room : ℕ) (es left : List Entry) (e : End) → 128 ≤ room → (chunk_of room es left e).done ≡ false → length (chunk_of room es left e).rest.entries < length es
unfolding chunk_of
chunk_fewer room [] left e h d = let i = rw (le-ltb room 128 h) at d in let z : ◌≡◌ {A = ℕ} 0 1 = cc in absurd (omega arith)
chunk_fewer room (x ∷ es) left e h d = rw (le-ltb room 128 h) (omega (arith, chunk_most (room - length (entry_text x)) es left e))

module _ (k : Coming) (out out' : List ℕ) (r : code.Chunk) (i : ChunkIs k out out' r) where
  call_text : take r.count out' ≡ (chunk (length out) k).text
  call_text = (λ j. take (i.count j) (i.bytes j)) ∙ take_at (chunk (length out) k).text (drop (length (chunk (length out) k).text) out) (length (chunk (length out) k).text) refl

  pub call_left : coming_text k ≡ take r.count out' ++ left_text (is_some r.end) (coming r.planner)
  call_left = chunk_text (length out) k.entries k.left k.end ∙ sym (λ j. call_text j ++ left_text (i.done j) (i.rest j))

  -- what is written lies in the bytes lent
  pub call_within : length out' ≡ length out → r.count ≤ length out'
  call_within e =
      let t = (chunk (length out) k).text in
      omega (arith, i.count, ap length i.bytes, length-append t (drop (length t) out), length-drop (length t) out)

  -- 128 bytes are enough to go on
  pub call_fewer : 128 ≤ length out → is_some r.end ≡ false → length (coming r.planner).entries < length k.entries
  call_fewer h d =
      let f = chunk_fewer (length out) k.entries k.left k.end h (sym i.done ∙ d) in
      omega (arith, ap (λ (c : Coming). length c.entries) i.rest)

-- ---- any number of calls

pub joined : {p : Planner} {text : List ℕ} {done : Bool} {p' : Planner} → Calls p text done p' → coming_text (coming p) ≡ text ++ left_text done (coming p')
joined none = refl
joined (last {p} out out' r i d) = call_left (coming p) out out' r i ∙ ap (λ (t : Bool). take r.count out' ++ left_text t (coming r.planner)) d
joined (more {p} {text} {done} {p'} out out' r i d rest) =
    call_left (coming p) out out' r i
    ∙ ap (λ (t : Bool). take r.count out' ++ left_text t (coming r.planner)) d
    ∙ ap (λ (t : List ℕ). take r.count out' ++ t) (joined rest)
    ∙ sym (append_assoc (take r.count out') text (left_text done (coming p')))

pub plan_text_lem : (plan : Plan) → coming_text (coming_of plan) ≡ plan_text plan
unfolding plan_text
plan_text_lem plan = refl

-- D "It prints each step's kind and numbers": from a fresh planner, the plan's text
module _ (bytes : List ℕ) (opcode : ℕ) (scissor : Scissor) (mode address : ℕ) (p : Planner) (f : Fresh bytes opcode scissor mode address p) where
  pub fresh_text : {text : List ℕ} {done : Bool} {p' : Planner} → Calls p text done p' → plan_text (plan_of (request_of bytes opcode scissor mode address)) ≡ text ++ left_text done (coming p')
  fresh_text c = sym (ap coming_text f.coming ∙ plan_text_lem (plan_of (request_of bytes opcode scissor mode address))) ∙ joined c

-- from the planner of a case, of any length, the text of its plan
pub case_text : (bs : List ℕ) (p : Planner) → CaseIs bs p → {text : List ℕ} {done : Bool} {p' : Planner} → Calls p text done p' → plan_text (case_plan bs) ≡ text ++ left_text done (coming p')
case_text bs p i c = sym (ap coming_text i.coming ∙ plan_text_lem (case_plan bs)) ∙ joined c
