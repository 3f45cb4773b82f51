-- Every number that is read stands within the first 61 bytes, so they ask what all the bytes do.
use Rattle.std.specs.Prelude.{◌≡◌, Option, Some, None, List, ℕ, ◌<◌, length, take, pos, MatchOption}
use Rattle.std.proofs.Common.{Bor, ap, ◌∙◌, arith, lt-ltb, le-ltb}
use Rattle.std.specs.Option.{IsSomeAnd}
use Rattle.std.specs.Array.{IsFirstChunk}
use Rattle.object.specs.Reads.{read_first}
use Rattle.request.specs.declared.types.Request.{Request}
use Rattle.request.specs.Stored.{asked_at, case_of}
use Rattle.request.proofs.stored.from_bytes.Goals as goal

first : (bs : List ℕ) → asked_at (take 61 bs) ≡ asked_at bs
unfolding asked_at
first bs = λ i. record {
  opcode = read_first bs 61 52 1 (omega arith) i;
  scissor = record {
    ulx = pos (read_first bs 61 40 2 (omega arith) i);
    uly = pos (read_first bs 61 42 2 (omega arith) i);
    lrx = pos (read_first bs 61 44 2 (omega arith) i);
    lry = pos (read_first bs 61 46 2 (omega arith) i);
  };
  mode = read_first bs 61 48 4 (omega arith) i;
  address = read_first bs 61 53 8 (omega arith) i;
}

none : (bs : List ℕ) → length bs < 61 → None ≡ case_of bs
unfolding case_of
none bs h = rw (lt-ltb (length bs) 61 h)

some : (bs ys : List ℕ) (q : Request) → IsFirstChunk bs ys 61 → q ≡ asked_at ys → Some q ≡ case_of bs
unfolding case_of
some bs ys q h e = rw (le-ltb (length bs) 61 h.enough) (ap Some (e ∙ ap asked_at h.same ∙ first bs))

given : (bs : List ℕ) (o : Option (Bor (List ℕ))) (r : Option Request) → MatchOption o (length bs < 61) (λ y. IsFirstChunk bs y.now 61) → MatchOption o (r ≡ None) (λ y. IsSomeAnd r (λ q. q ≡ asked_at y.now)) → r ≡ case_of bs
given bs None r h e = e ∙ none bs h
given bs (Some y) None h e = absurd e
given bs (Some y) (Some q) h e = some bs y.now q h e

pub returns : goal.returns
returns c = given c.args.s.now c.first_chunk.result c.map.result c.first_chunk.ensures.cases c.map.ensures.cases
