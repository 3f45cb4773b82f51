-- The text so far: lines in front of what one call on the rest would write.
-- Assumes nothing.
use Rattle.std.specs.Prelude.{Ok, Err, Some, None}
use Rattle.std.specs.Option.{is_some}
use mathlib.Core.Path.{◌≡◌, refl, sym, ap, ◌∙◌}
use mathlib.Core.Bool.{true}
use mathlib.Core.List.{List, [], ◌∷◌, ◌++◌, append_assoc, append-nil}
use Prim.Native.Nat.{ℕ, ◌+◌, ◌-◌, ◌≤◌, ◌<◌}
use native.Mathlib.Omega.{arith}
use lib.ListN.{length, drop, length-append}
use borrow.Author.Tests.{lt-ltb, le-ltb}
use Rattle.plan.specs.declared.types.Entry.{Entry}
use Rattle.plan.specs.declared.types.End.{End}
use Rattle.plan.specs.Steps.{Coming, next_of}
use Rattle.planner.specs.Planner.{Planner}
use Rattle.planner.specs.declared.types.Stop.{Stop}
use Rattle.planner.specs.declared.types.Step.{Step}
use Rattle.planner.specs.Coming.{coming, StepGives}
use Rattle.planner.proofs.StepLaws.{gave_entry, gave_rest, gave_end}
use Rattle.show.specs.declared.text.Chunk as code
use Rattle.lines.specs.Text.{entry_text, end_text}
use Rattle.lines.specs.Lines.{with_text, PutIs}
use Rattle.show.specs.Chunk.{Chunk, nothing, and_then, chunk_of, chunk, ChunkIs}
use Rattle.lines.proofs.Texts.{with_nil, with_after}
use Rattle.lines.proofs.Rows.{entry_most}

abbrev to_come : List Entry → List Entry → End → Coming
to_come es left e = record { entries = es; left = left; end = e }

-- ---- the first of what one call writes

chunk_none : (room : ℕ) (es left : List Entry) (e : End) → room < 128 → chunk_of room es left e ≡ nothing (to_come es left e)
unfolding chunk_of
chunk_none room [] left e h = rw (lt-ltb room 128 h)
chunk_none room (x ∷ es) left e h = rw (lt-ltb room 128 h)

chunk_entry : (room : ℕ) (x : Entry) (es left : List Entry) (e : End) → 128 ≤ room → chunk_of room (x ∷ es) left e ≡ and_then (entry_text x) (chunk_of (room - length (entry_text x)) es left e)
unfolding chunk_of
chunk_entry room x es left e h = rw (le-ltb room 128 h)

chunk_end : (room : ℕ) (left : List Entry) (e : End) → 128 ≤ room → chunk_of room [] left e ≡ record { text = end_text e; rest = next_of [] left e; done = true }
unfolding chunk_of
chunk_end room left e h = rw (le-ltb room 128 h)

-- ---- a text at the front

front : (out t : List ℕ) → with_text out 0 t ≡ t ++ drop (length t) out
unfolding with_text
front out t = let z : 0 + length t ≡ length t = omega arith in ap (λ (n : ℕ). t ++ drop n out) z

-- `text` is written, and what is left is what one call would write into the rest of the bytes
pub record Going (k : Coming) (out₀ out : List ℕ) (p : Planner) (at : ℕ) : Type 0 where
  pub text : List ℕ
  pub place : at ≡ length text
  pub fits : at ≤ length out₀
  pub same : length out ≡ length out₀
  pub stands : out ≡ with_text out₀ 0 text
  pub whole : chunk (length out₀) k ≡ and_then text (chunk (length out₀ - at) (coming p))

pub going_start : (p : Planner) (out : List ℕ) → Going (coming p) out out p 0
going_start p out =
    let z : length out ≡ length out - 0 = omega arith in
    record { text = []; place = refl; fits = omega arith; same = refl; stands = sym (with_nil out 0); whole = ap (λ (n : ℕ). chunk n (coming p)) z }

module _ (k : Coming) (out₀ out : List ℕ) (p : Planner) (at : ℕ) (g : Going k out₀ out p at) where
  -- the call ends with this chunk
  closes : (c : Chunk) → chunk (length out₀) k ≡ c → (out' : List ℕ) (r : code.Chunk) → r.count ≡ length c.text → is_some r.end ≡ c.done → out' ≡ with_text out₀ 0 c.text → coming r.planner ≡ c.rest → ChunkIs k out₀ out' r
  closes c e out' r n d o m =
      record {
        count = n ∙ ap (λ (x : Chunk). length x.text) (sym e);
        done = d ∙ ap (λ (x : Chunk). x.done) (sym e);
        bytes = o ∙ front out₀ c.text ∙ ap (λ (x : Chunk). x.text ++ drop (length x.text) out₀) (sym e);
        rest = m ∙ ap (λ (x : Chunk). x.rest) (sym e);
      }

  -- no room for a line
  pub going_full : length out - at < 128 → ChunkIs k out₀ out (record { planner = p; count = at; end = None })
  going_full l =
      let few : length out₀ - at < 128 = omega (arith, g.same) in
      closes
      (and_then g.text (nothing (coming p)))
      (g.whole ∙ ap (and_then g.text) (chunk_none (length out₀ - at) (coming p).entries (coming p).left (coming p).end few))
      out
      (record { planner = p; count = at; end = None })
      (g.place ∙ ap length (sym (append-nil g.text)))
      refl
      (g.stands ∙ ap (with_text out₀ 0) (sym (append-nil g.text)))
      refl

  module _ (s : Step) (i : StepGives p s) (l : 128 ≤ length out - at) where
    room : 128 ≤ length out₀ - at
    room = omega (arith, l, g.same)

    -- a line after the text
    after : (t out' : List ℕ) (at' : ℕ) → PutIs out at t out' at' → out' ≡ with_text out₀ 0 (g.text ++ t)
    after t out' at' q =
        let z : at ≡ 0 + length g.text = omega (arith, g.place) in
        q.is ∙ (λ j. with_text (g.stands j) (z j) t) ∙ with_after out₀ 0 g.text (omega (arith, g.place, g.fits)) t

    pub going_more : (e : Entry) → s.given ≡ Ok e → (out' : List ℕ) (at' : ℕ) → PutIs out at (entry_text e) out' at' → length out' ≡ length out → Going k out₀ out' s.planner at'
    going_more e a out' at' q n =
        let c = coming p in
        let t = entry_text e in
        let m : length out₀ - at - length t ≡ length out₀ - at' = omega (arith, q.next) in
        let first : chunk (length out₀ - at) c ≡ and_then t (chunk (length out₀ - at') (coming s.planner)) =
        ap (λ (es : List Entry). chunk_of (length out₀ - at) es c.left c.end) (gave_entry p s i e a)
        ∙ chunk_entry (length out₀ - at) e (drop 1 c.entries) c.left c.end room
        ∙ (λ j. and_then t (chunk (m j) (sym (gave_rest p s i e a) j))) in
        record {
          text = g.text ++ t;
          place = omega (arith, q.next, g.place, length-append g.text t);
          fits = omega (arith, q.next, room, entry_most e);
          same = n ∙ g.same;
          stands = after t out' at' q;
          whole = g.whole ∙ ap (and_then g.text) first ∙ ap (λ (x : List ℕ). record { text = x; rest = (chunk (length out₀ - at') (coming s.planner)).rest; done = (chunk (length out₀ - at') (coming s.planner)).done }) (sym (append_assoc g.text t (chunk (length out₀ - at') (coming s.planner)).text));
        }

    pub going_end : (x : Stop) → s.given ≡ Err x → (out' : List ℕ) (at' : ℕ) → PutIs out at (end_text x.end) out' at' → ChunkIs k out₀ out' (record { planner = s.planner; count = at'; end = Some x.end })
    going_end x a out' at' q =
        let c = coming p in
        let h = gave_end p s i x a in
        let t = end_text x.end in
        let whole : chunk (length out₀) k ≡ and_then g.text (record { text = t; rest = next_of [] c.left c.end; done = true }) =
        g.whole
        ∙ ap (and_then g.text) (
        ap (λ (es : List Entry). chunk_of (length out₀ - at) es c.left c.end) h.0
        ∙ chunk_end (length out₀ - at) c.left c.end room
        ∙ ap (λ (x : End). record { text = end_text x; rest = next_of [] c.left c.end; done = true }) (sym h.1.0)) in
        closes
        (and_then g.text (record { text = t; rest = next_of [] c.left c.end; done = true }))
        whole
        out'
        (record { planner = s.planner; count = at'; end = Some x.end })
        (omega (arith, q.next, g.place, length-append g.text t))
        refl
        (after t out' at' q)
        (i.rest ∙ ap (λ (es : List Entry). next_of es c.left c.end) h.0)
