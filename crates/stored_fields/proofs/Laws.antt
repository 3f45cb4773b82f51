-- What tests that are joined say together, and what a signed number's word says of it.
-- Assumes nothing.
use mathlib.Core.Path.{◌≡◌, refl, sym, ◌∙◌, ap}
use mathlib.Core.Bool.{Bool, true, false, cond, ◌&&◌, ◌||◌, true≢false}
use mathlib.Core.List.{List, [], ◌∷◌}
use Prim.Native.Nat.{ℕ, ◌+◌, ◌-◌, ◌^◌, ◌≤◌}
use native.Mathlib.Omega.{arith}
use borrow.Author.Tests.{leb-true, leb-false, le-leb}
use lib.Dec.{leb}
use Rattle.std.proofs.Common.{rules}
use Rattle.std.proofs.lemmas.Bool.{and_parts}
use Rattle.std.specs.Prelude.{Option, Some}
use Rattle.std.specs.declared.cmp.Ordering.{Ordering}
use Rattle.std.specs.Ordering.{nat_cmp, partial_le, partial_lt}
use Rattle.words.specs.declared.count.Counts.{Counts}
use Rattle.words.specs.Counts.{Countable}
use lib.IntN.{ℤ, pos, negsuc, neg_ℤ}
use lib.Signed.{◌≤ℤ◌}
use mir.Syntax.{w64}
use mir.Val.{SFits, to_z, of_z}
use mir.ValLaws.{to_z-of_z, to_z_pos}
use Rattle.signed.specs.Diff.{up, dn, zdiff, zarith, ge_dn}
use Rattle.signed.specs.Cast.{word}
use Rattle.signed.specs.Word.{bits_modulo}
use Rattle.measures.specs.Range.{Below, counted}
use Rattle.stored_fields.specs.Test.{all_of, within, counts_test}

abbrev pub Holds : Bool → List Bool → Type 0
Holds t [] = t ≡ true
Holds t (u ∷ us) = (t ≡ true) × Holds u us

pub all_false : (us : List Bool) → all_of false us ≡ false
all_false [] = refl
all_false (u ∷ us) = all_false us

pub all_yes : (t : Bool) (us : List Bool) → all_of t us ≡ true → Holds t us
all_yes t [] h = h
all_yes true (u ∷ us) h = (refl, all_yes u us h)
all_yes false (u ∷ us) h = absurd (true≢false (sym h ∙ all_false us))

pub all_no : (t : Bool) (us : List Bool) → Holds t us → all_of t us ≡ true
all_no t [] h = h
all_no t (u ∷ us) h = rw h.0 (all_no u us h.1)

pub each : (a b : Bool) → a ≡ true → b ≡ true → (a && b) ≡ true
each a b h k = all_no a (b ∷ []) (h, k)

pub or_left : (a b : Bool) → (a || b) ≡ true → a ≡ false → b ≡ true
or_left true b h e = absurd (true≢false e)
or_left false b h e = h

pub record FewCounts (n : Counts) (left : ℕ) : Type 0 where
  pub counts : Countable n
  pub few : n.entries + left ≤ 2 ^ 40

pub counts_yes : (n : Counts) (left : ℕ) → counts_test n left ≡ true → FewCounts n left
counts_yes n left t =
    let h = all_yes (leb (n.entries + left) (2 ^ 40)) (leb n.rectangles n.entries ∷ leb n.line 65535 ∷ []) t in
    let f : n.entries + left ≤ 2 ^ 40 = leb-true _ _ h.0 in
    record { counts = record { entries = omega arith; rectangles = leb-true _ _ h.1.0; line = leb-true _ _ h.1.1 }; few = f }

pub counts_no : (n : Counts) (left : ℕ) → Countable n → n.entries + left ≤ 2 ^ 40 → counts_test n left ≡ true
counts_no n left h f = all_no (leb (n.entries + left) (2 ^ 40)) (leb n.rectangles n.entries ∷ leb n.line 65535 ∷ []) (le-leb _ _ f, (le-leb _ _ h.rectangles, le-leb _ _ h.line))

-- it comes back out of its word
pub word_back : (z : ℤ) → SFits w64 z → to_z w64 (word z) ≡ z
word_back z f = ap (to_z w64) (sym (bits_modulo w64 z f)) ∙ to_z-of_z w64 z f

-- the bits of a local that holds it are its word
pub word_read : (z : ℤ) → SFits w64 z → of_z w64 (to_z w64 (of_z w64 z)) ≡ word z
word_read z f = ap (of_z w64) (to_z-of_z w64 z f) ∙ bits_modulo w64 z f

-- and one that is not negative out of its number
pub up_back : {k : ℕ} {z : ℤ} → 2 ^ k ≤ 2 ^ 63 → Below k z → to_z w64 (up z) ≡ z
up_back {k} {z} p b = let h = b.high in to_z_pos w64 (up z) (omega zarith) ∙ counted b.low

-- a small word is such a number
pub small_below : (k n : ℕ) → 2 ^ k ≤ 2 ^ 63 → n ≤ 2 ^ k - 1 → Below k (to_z w64 n)
small_below k n p h = rw (to_z_pos w64 n (omega arith)) (record { low = omega zarith; high = omega zarith })

pub below_small : {k : ℕ} {z : ℤ} → Below k z → up z ≤ 2 ^ k - 1
below_small {k} {z} b = let h = b.high in omega zarith

-- ---- bounds

pub le_at : (z : ℤ) (n : ℕ) → up z ≤ n → z ≤ℤ pos n
le_at z n h = omega zarith

pub ge_at : (z : ℤ) (n : ℕ) → dn z ≤ n → neg_ℤ (pos n) ≤ℤ z
ge_at z n h = simp zdiff (omega zarith)

pub at_le : (z : ℤ) (n : ℕ) → z ≤ℤ pos n → up z ≤ n
at_le z n h = omega zarith

pub at_ge : (z : ℤ) (n : ℕ) → neg_ℤ (pos n) ≤ℤ z → dn z ≤ n
at_ge (pos m) n h = omega arith
at_ge (negsuc m) n h = let k = simp zdiff at h in omega zarith

pub not_below : (z : ℤ) → dn z ≡ 0 → pos 0 ≤ℤ z
not_below z h = omega zarith

pub below_not : (z : ℤ) → pos 0 ≤ℤ z → dn z ≡ 0
below_not z h = omega (arith, ge_dn z 0 h)

pub same_parts : (a b : ℤ) → up a ≡ up b → dn a ≡ dn b → a ≡ b
same_parts a b h k = omega zarith

pub some_dn : (z : ℤ) → 1 ≤ up z → dn z ≡ 0
some_dn (pos n) h = refl
some_dn (negsuc n) h = absurd (omega arith)

-- ---- what `contains` answers at `a..=b`

abbrev compared : ℕ → ℕ → Option Ordering
compared x y = Some (nat_cmp x y)

le_is : (a b : ℕ) → partial_le compared a b ≡ leb a b
le_is a b = by (leb a b) refl
  where
    by : (t : Bool) → leb a b ≡ t → partial_le compared a b ≡ t
    by true e = let h = leb-true _ _ e in search rules
    by false e = let h = leb-false _ _ e in search rules

pub contains_is : {s e a b : ℕ} {x r : Bool} (n : ℕ) → r ≡ (partial_le compared s n && cond x (partial_lt compared n e) (partial_le compared n e)) → s ≡ a → e ≡ b → x ≡ false → r ≡ within a b n
contains_is {s} {e} {a} {b} n h i j k = rw (i, j, k, le_is a n, le_is n b) at h

pub within_yes : (a b n : ℕ) → within a b n ≡ true → (a ≤ n) × (n ≤ b)
within_yes a b n t = let e = and_parts (leb a n) (leb n b) t in (leb-true _ _ e.0, leb-true _ _ e.1)

pub within_no : (a b n : ℕ) → a ≤ n → n ≤ b → within a b n ≡ true
within_no a b n h k = each _ _ (le-leb _ _ h) (le-leb _ _ k)
