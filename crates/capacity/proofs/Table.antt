-- A rule of a table of twenty entries, format by size, proved at all of them by one test that antt computes.
-- Assumes nothing.
use Rattle.std.specs.Prelude.{◌≡◌, Bool, true, false, List, [], ◌∷◌, ℕ, zero, suc, ◌+◌, ◌/◌, ◌%◌, ◌<◌, ◌≤◌, T, eqb, leb, length, get_or}
use Rattle.std.proofs.Common.{◌∙◌, subst, sym, ap, arith, add-zero, zero-add, add-suc, suc-add, le_of_suc-le-suc, not-suc-le-zero}
use Rattle.std.proofs.Math.Facts.{eqb_yes, leb_yes}
use Rattle.capacity.specs.Entry.{Place, Capacity}

abbrev both : Bool → Bool → Bool
both true b = b
both false b = false

both_left : (a b : Bool) → T (both a b) → T a
both_left true b t = tt
both_left false b t = t

both_right : (a b : Bool) → T (both a b) → T b
both_right true b t = t
both_right false b t = absurd t

-- the entry x at place k is the rule's for its format and size, and at most 512
abbrev pub right : (ℕ → ℕ → ℕ) → ℕ → ℕ → Bool
right rule k x = both (eqb x (rule (k / 4) (k % 4))) (leb x 512)

-- the same of each entry of the list, whose places are counted from i
abbrev pub every : (ℕ → ℕ → ℕ) → ℕ → List ℕ → Bool
every rule i [] = true
every rule i (x ∷ xs) = both (right rule i x) (every rule (suc i) xs)

from : (rule : ℕ → ℕ → ℕ) (xs : List ℕ) (i : ℕ) → T (every rule i xs) → (k : ℕ) → k < length xs → T (right rule (i + k) (get_or xs k 0))
from rule [] i t k h = absurd (not-suc-le-zero h)
from rule (x ∷ xs) i t zero h = subst (λ (m : ℕ). T (right rule m x)) (sym (add-zero i)) (both_left (right rule i x) (every rule (suc i) xs) t)
from rule (x ∷ xs) i t (suc k) h =
    subst (λ (m : ℕ). T (right rule m (get_or xs k 0))) (suc-add i k ∙ sym (add-suc i k))
    (from rule xs (suc i) (both_right (right rule i x) (every rule (suc i) xs) t) k (le_of_suc-le-suc h))

-- what the test says of the entry at a format and a size
pub at : (rule : ℕ → ℕ → ℕ) (xs : List ℕ) → T (every rule 0 xs) → length xs ≡ 20 → (fmt siz k : ℕ) → siz ≤ 3 → Place fmt siz k → Capacity (rule fmt siz) (get_or xs k 0)
at rule xs t n fmt siz k s p =
    let r : T (right rule (0 + k) (get_or xs k 0)) = from rule xs 0 t k (omega arith) in
    let q = subst (λ (m : ℕ). T (right rule m (get_or xs k 0))) (zero-add k) r in
    let f : k / 4 ≡ fmt = omega arith in
    let z : k % 4 ≡ siz = omega arith in
    record {
      is = eqb_yes {a = get_or xs k 0} {b = rule (k / 4) (k % 4)} (both_left (eqb (get_or xs k 0) (rule (k / 4) (k % 4))) (leb (get_or xs k 0) 512) q) ∙ ap (λ (m : ℕ). rule m (k % 4)) f ∙ ap (rule fmt) z;
      most = leb_yes {a = get_or xs k 0} {b = 512} (both_right (eqb (get_or xs k 0) (rule (k / 4) (k % 4))) (leb (get_or xs k 0) 512) q);
    }
