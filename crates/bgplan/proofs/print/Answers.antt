-- A call's text is out and the rest is to come: the pieces joined are the whole text.
use Rattle.std.proofs.Common.{arith, sym, ap, ◌∙◌, ◌≡◌, ◌++◌, List, ℕ, Bool, true, false, take, append_assoc, append-nil, subst}
use Rattle.std.specs.Option.{is_some}
use Rattle.std.specs.Io.KnownBytes.{Appends}
use Rattle.std.proofs.KnownBytes.{Appends-trans}
use Rattle.planner.specs.Planner.{Planner}
use Rattle.planner.specs.Coming.{coming}
use Rattle.show.specs.declared.text.Chunk.{Chunk}
use Rattle.show.specs.Chunk.{ChunkIs}
use Rattle.show.specs.Joined.{coming_text, left_text, call_left, call_fewer}
use Rattle.bgplan.proofs.print.Goals as goal

-- the text out before, a call's, and what that leaves to come
module _ (k : List ℕ) (text : List ℕ) (p : Planner) (out out' : List ℕ) (r : Chunk) (i : ChunkIs (coming p) out out' r) (rest : k ≡ text ++ coming_text (coming p)) where
  so_far : (done : Bool) → is_some r.end ≡ done → k ≡ (text ++ take r.count out') ++ left_text done (coming r.planner)
  so_far done e =
      rest ∙ ap (λ t. text ++ t) (call_left (coming p) out out' r i ∙ ap (λ (d : Bool). take r.count out' ++ left_text d (coming r.planner)) e)
      ∙ sym (append_assoc text (take r.count out') _)

pub returns-then-is_some : goal.returns-then-is_some
returns-then-is_some g c =
    let l = c.loop-chunk in
    let s = so_far _ l.invariant.text _ _ _ _ c.next_text-chunk.ensures l.invariant.rest true (sym c.is_some.ensures ∙ c.if-is_some.true) ∙ append-nil _ in
    subst (Appends _ _) (sym s) (Appends-trans _ _ _ _ _ l.invariant.out c.in_ok-write_all.ensures.bytes)

pub loop-chunk-smaller : goal.loop-chunk-smaller
loop-chunk-smaller g c =
    let l = c.loop-chunk in
    call_fewer _ _ _ _ c.next_text-chunk.ensures (omega (arith, l.invariant.room)) (sym c.is_some.ensures ∙ c.if-is_some.false)

pub loop-chunk-preserved : goal.loop-chunk-preserved
loop-chunk-preserved g c =
    let l = c.loop-chunk in
    record {
      text = _;
      out = Appends-trans _ _ _ _ _ l.invariant.out c.in_ok-write_all.ensures.bytes;
      rest = so_far _ l.invariant.text _ _ _ _ c.next_text-chunk.ensures l.invariant.rest false (sym c.is_some.ensures ∙ c.if-is_some.false);
      room = c.next_text-chunk.auto.out ∙ l.invariant.room;
    }
