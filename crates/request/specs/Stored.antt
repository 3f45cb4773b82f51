-- A case: what its bytes ask for, or that they are too few. D is docs/SPECIFICATION.md, section 12.
-- Assumes nothing.
use Rattle.std.proofs.Math.Path.{◌≡◌, refl, ap}
use Rattle.std.proofs.Common.{◌∙◌, arith}
use Rattle.std.specs.Prelude.{Option, Some, None, Bool, List, ℕ, ◌≤◌, ◌<◌, pos, take}
use Rattle.std.proofs.Math.Bool.{true, false, cond}
use Rattle.std.proofs.Math.Dec.{ltb}
use Rattle.std.proofs.Math.ListN.{length}
use borrow.Author.Tests.{ltb-true, ltb-false}
use Rattle.object.specs.Layout.{read}
use Rattle.plan.specs.Check.{request_at}
use Rattle.request.specs.declared.types.Request.{Request}
use Rattle.request.specs.Host.{with_bytes}

-- what a case asks besides its object
unfoldable pub asked_at : List ℕ → Request
asked_at bs =
    record {
      opcode = read bs 52 1;
      scissor = record { ulx = pos (read bs 40 2); uly = pos (read bs 42 2); lrx = pos (read bs 44 2); lry = pos (read bs 46 2) };
      mode = read bs 48 4;
      address = read bs 53 8;
    }

-- D "Program `bgplan` reads 61 bytes"; fewer are no case
unfoldable pub case_of : List ℕ → Option Request
case_of bs = cond (ltb (length bs) 61) None (Some (asked_at bs))

-- what an answer says of the bytes, however many of the object's the planner gets
module _ (bs : List ℕ) where
  pub asked_is : (n : ℕ) → with_bytes (take n bs) (asked_at bs) ≡ request_at n bs
  unfolding asked_at request_at
  asked_is n = refl

  pub request_of : (q : Request) → Some q ≡ case_of bs → (61 ≤ length bs) × ((n : ℕ) → with_bytes (take n bs) q ≡ request_at n bs)
  unfolding case_of
  request_of q e = by (ltb (length bs) 61) refl e
    where
      by : (t : Bool) → ltb (length bs) 61 ≡ t → Some q ≡ cond t None (Some (asked_at bs)) → (61 ≤ length bs) × ((n : ℕ) → with_bytes (take n bs) q ≡ request_at n bs)
      by true i e = let z : ◌≡◌ {A = ℕ} 0 1 = cc in absurd (omega arith)
      by false i e = let k : q ≡ asked_at bs = cc in (ltb-false (length bs) 61 i, λ n. ap (with_bytes (take n bs)) k ∙ asked_is n)

  pub short_of : None ≡ case_of bs → length bs < 61
  unfolding case_of
  short_of e = by (ltb (length bs) 61) refl e
    where
      by : (t : Bool) → ltb (length bs) 61 ≡ t → None ≡ cond t None (Some (asked_at bs)) → length bs < 61
      by true i e = ltb-true (length bs) 61 i
      by false i e = let z : ◌≡◌ {A = ℕ} 0 1 = cc in absurd (omega arith)
