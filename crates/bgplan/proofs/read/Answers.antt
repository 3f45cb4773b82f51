-- A read's bytes come after those that stand already.
use Rattle.std.proofs.Common.{rules, ◌≡◌, ◌≤◌, ◌+◌, List, ◌++◌, ℕ, length, take, sym, ap, ◌∙◌, subst, le_refl, drop_at, length-take-le}
use Rattle.std.proofs.lemmas.Slice.{take-put_mid_below}
use Rattle.std.specs.Io.KnownBytes.{Consumes}
use Rattle.std.proofs.KnownBytes.{Consumes-trans}
use borrow.Rule.Slice.PartMut.{put_mid, post_of}
use lib.Seq.{take-add, take-append-le}
use Rattle.bgplan.proofs.read.Goals as goal

read_on : (n k m : ℕ) (xs ys : List ℕ) → n ≤ length xs → m ≤ length ys → take n xs ++ take m ys ≡ take (n + m) (put_mid n k xs ys)
read_on n k m xs ys h l =
    ap (λ t. t ++ take m ys) (sym (take-put_mid_below n k xs ys n (le_refl n) h))
    ∙ ap (λ t. take n (put_mid n k xs ys) ++ t) (sym (ap (take m) (drop_at (take n xs) (ys ++ post_of n k xs) n (length-take-le n xs h)) ∙ take-append-le m ys (post_of n k xs) l))
    ∙ sym (take-add n m (put_mid n k xs ys))

pub loop-n-preserved : goal.loop-n-preserved
loop-n-preserved g c =
    let l = c.loop-n in
    let on = read_on l.n _ c.in_ok-more.more l.bytes c.read.new.buf l.invariant.fits c.in_ok-more.ensures.bound.0 in
    record {
      fits = search rules;
      same = search rules;
      first = subst (Consumes _ _) on (Consumes-trans _ _ _ _ _ l.invariant.first c.in_ok-more.ensures.bytes.0);
    }
