-- Words set twice: over each other the later stand, and apart from each other the order does not matter.
-- Assumes nothing.
use Rattle.std.specs.Prelude.{◌≡◌, refl, Bool, true, false, cond, List, [], ◌∷◌, ◌++◌, ℕ, suc, ◌+◌, ◌*◌, ◌/◌, ◌≤◌, ◌<◌, ltb, length, take, drop, set}
use Rattle.std.proofs.Common.{sym, ap, ◌∙◌, arith, set-set, take_all, ltb-true}
use Rattle.std.proofs.Math.Seq.{paste, length-sets}
use Rattle.std.proofs.lemmas.List.Edits.{sets, sets-eq}
use Rattle.std.proofs.lemmas.List.{set_comm}
use Rattle.giving.specs.Host.{set_in}
use Rattle.giving.specs.Over.{set_to}

-- a word before others
sets_past : (xs l : List ℕ) (i j a : ℕ) → j < i → sets (set l j a) i xs ≡ set (sets l i xs) j a
sets_past [] l i j a h = refl
sets_past (x ∷ xs) l i j a h = ap (λ (m : List ℕ). sets m (suc i) xs) (set_comm l j i a x (λ e. omega arith)) ∙ sets_past xs (set l i x) (suc i) j a (omega arith)

sets_apart : (xs ys l : List ℕ) (a b : ℕ) → a + length xs ≤ b → sets (sets l a xs) b ys ≡ sets (sets l b ys) a xs
sets_apart [] ys l a b h = refl
sets_apart (x ∷ xs) ys l a b h = sets_apart xs ys (set l a x) (suc a) b (omega arith) ∙ ap (λ (m : List ℕ). sets m (suc a) xs) (sets_past ys l b a x (omega arith))

sets_over : (xs ys l : List ℕ) (a : ℕ) → length xs ≡ length ys → sets (sets l a xs) a ys ≡ sets l a ys
sets_over [] [] l a h = refl
sets_over [] (y ∷ ys) l a h = absurd (omega arith)
sets_over (x ∷ xs) [] l a h = absurd (omega arith)
sets_over (x ∷ xs) (y ∷ ys) l a h =
    ap (λ (m : List ℕ). sets m (suc a) ys) (sym (sets_past xs (set l a x) (suc a) a y (omega arith)) ∙ ap (λ (m : List ℕ). sets m (suc a) xs) (set-set l a x y))
    ∙ sets_over xs ys (set l a y) (suc a) (omega arith)

pub to_length : (t : Bool) (ws : List ℕ) (a : ℕ) (xs : List ℕ) → length (set_to t ws a xs) ≡ length ws
to_length true ws a xs = length-sets ws a xs
to_length false ws a xs = refl

pub to_apart : (t u : Bool) (ws : List ℕ) (a : ℕ) (xs : List ℕ) (b : ℕ) (ys : List ℕ) → a + length xs ≤ b → set_to u (set_to t ws a xs) b ys ≡ set_to t (set_to u ws b ys) a xs
to_apart true true ws a xs b ys h = sets_apart xs ys ws a b h
to_apart true false ws a xs b ys h = refl
to_apart false true ws a xs b ys h = refl
to_apart false false ws a xs b ys h = refl

pub to_over : (t : Bool) (ws : List ℕ) (a : ℕ) (xs ys : List ℕ) → length xs ≡ length ys → set_to t (set_to t ws a xs) a ys ≡ set_to t ws a ys
to_over true ws a xs ys h = sets_over xs ys ws a h
to_over false ws a xs ys h = refl

-- what is set in a tile is set word by word
pub in_sets : (ws : List ℕ) (i k : ℕ) (xs : List ℕ) (n : ℕ) → length xs ≡ n → k + n ≤ 17 → set_in ws i k xs n ≡ set_to (ltb i (length ws / 17)) ws (i * 17 + k) xs
in_sets ws i k xs n l h = by (ltb i (length ws / 17)) refl
  where
    by : (t : Bool) → ltb i (length ws / 17) ≡ t → cond t (paste ws (i * 17 + k) xs n) ws ≡ set_to t ws (i * 17 + k) xs
    by true e =
        let j = ltb-true i (length ws / 17) e in
        ap (λ (m : List ℕ). take (i * 17 + k) ws ++ m ++ drop (i * 17 + k + n) ws) (take_all n xs (omega arith))
        ∙ ap (λ (m : ℕ). take (i * 17 + k) ws ++ xs ++ drop (i * 17 + k + m) ws) (sym l)
        ∙ sym (sets-eq xs ws (i * 17 + k) (omega arith))
    by false e = refl
