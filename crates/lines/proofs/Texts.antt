-- A text at a place: one byte more at either end, and another text over a part of it.
-- Assumes nothing.
use mathlib.Core.Path.{◌≡◌, refl, sym, ap, ◌∙◌}
use mathlib.Core.List.{List, [], ◌∷◌, ◌++◌, append_assoc}
use Prim.Native.Nat.{ℕ, suc, ◌+◌, ◌-◌, ◌≤◌, ◌<◌}
use native.Mathlib.Omega.{arith}
use lib.ListN.{length, take, drop, set, get_or, length-append, length-drop, take-append-drop}
use lib.Seq.{take-suc, set_at, set_split, length-take-le, take-add, take_at, drop_at, drop-drop}
use Rattle.lines.specs.Lines.{with_text}

module _ (out : List ℕ) where
  pub with_nil : (at : ℕ) → with_text out at [] ≡ out
  unfolding with_text
  with_nil at = let z : at + 0 ≡ at = omega arith in ap (λ (n : ℕ). take at out ++ drop n out) z ∙ take-append-drop at out

  module _ (at : ℕ) (s : List ℕ) (room : at + length s ≤ length out) where
    -- what stands before the text, with it, and after it
    with_head : length (take at out ++ s) ≡ at + length s
    with_head = length-append (take at out) s ∙ ap (λ (n : ℕ). n + length s) (length-take-le at out (omega arith))

    with_split : with_text out at s ≡ (take at out ++ s) ++ drop (at + length s) out
    unfolding with_text
    with_split = sym (append_assoc (take at out) s (drop (at + length s) out))

    pub with_length : length (with_text out at s) ≡ length out
    with_length = ap length with_split ∙ length-append (take at out ++ s) (drop (at + length s) out) ∙ omega (arith, with_head, length-drop (at + length s) out)

    with_take : take (at + length s) (with_text out at s) ≡ take at out ++ s
    with_take = ap (take (at + length s)) with_split ∙ take_at (take at out ++ s) (drop (at + length s) out) (at + length s) with_head

    with_drop : drop (at + length s) (with_text out at s) ≡ drop (at + length s) out
    with_drop = ap (drop (at + length s)) with_split ∙ drop_at (take at out ++ s) (drop (at + length s) out) (at + length s) with_head

    -- a text after the text
    pub with_after : (t : List ℕ) → with_text (with_text out at s) (at + length s) t ≡ with_text out at (s ++ t)
    unfolding with_text
    with_after t =
        let l = length-append s t in
        let e : at + length s + length t ≡ at + length (s ++ t) = omega arith in
        let d : drop (at + length s + length t) (with_text out at s) ≡ drop (at + length (s ++ t)) out =
        sym (drop-drop (length t) (at + length s) (with_text out at s)) ∙ ap (drop (length t)) with_drop ∙ drop-drop (length t) (at + length s) out ∙ ap (λ (n : ℕ). drop n out) e in
        (λ i. with_take i ++ (t ++ d i))
        ∙ append_assoc (take at out) s (t ++ drop (at + length (s ++ t)) out)
        ∙ ap (λ (x : List ℕ). take at out ++ x) (sym (append_assoc s t (drop (at + length (s ++ t)) out)))

    -- a longer text over the text
    pub with_again : (t : List ℕ) → length s ≤ length t → with_text (with_text out at s) at t ≡ with_text out at t
    unfolding with_text
    with_again t l =
        let n = length t - length s in
        let e : at + length t ≡ at + length s + n = omega arith in
        let f : take at (with_text out at s) ≡ take at out = take_at (take at out) (s ++ drop (at + length s) out) at (length-take-le at out (omega arith)) in
        let d : drop (at + length t) (with_text out at s) ≡ drop (at + length t) out =
        ap (λ (m : ℕ). drop m (with_text out at s)) e ∙ sym (drop-drop n (at + length s) (with_text out at s)) ∙ ap (drop n) with_drop ∙ drop-drop n (at + length s) out ∙ ap (λ (m : ℕ). drop m out) (sym e) in
        λ i. f i ++ (t ++ d i)

  -- one byte is a text
  one_is : (i a : ℕ) → i < length out → set out i a ≡ with_text out i (a ∷ [])
  unfolding with_text
  one_is i a l = let e : suc i ≡ i + 1 = omega arith in set_split out i a l ∙ ap (λ (n : ℕ). take i out ++ a ∷ drop n out) e

  -- one byte more in front of the text
  pub with_before : (i : ℕ) (t : List ℕ) (a : ℕ) → i + 1 + length t ≤ length out → set (with_text out (i + 1) t) i a ≡ with_text out i (a ∷ t)
  unfolding with_text
  with_before i t a room =
      let e : i + 1 ≡ suc i = omega arith in
      let f : i + 1 + length t ≡ i + suc (length t) = omega arith in
      let rest = t ++ drop (i + 1 + length t) out in
      ap (λ (x : List ℕ). set (x ++ rest) i a) (ap (λ (n : ℕ). take n out) e ∙ take-suc out i 0 (omega arith))
      ∙ ap (λ (x : List ℕ). set x i a) (append_assoc (take i out) (get_or out i 0 ∷ []) rest)
      ∙ set_at (take i out) (get_or out i 0) rest a i (length-take-le i out (omega arith))
      ∙ ap (λ (n : ℕ). take i out ++ (a ∷ (t ++ drop n out))) f

  -- a text over the first part of another, which is as long
  over_first : (p : ℕ) (b c t : List ℕ) → p + length (b ++ t) ≤ length out → length c ≡ length b → with_text (with_text out p (b ++ t)) p c ≡ with_text out p (c ++ t)
  unfolding with_text
  over_first p b c t room e =
      let rest = drop (p + length (b ++ t)) out in
      let k = length-take-le p out (omega arith) in
      let l : p + length (b ++ t) ≡ p + length (c ++ t) = omega (arith, length-append b t, length-append c t) in
      let tail : drop (p + length c) (take p out ++ ((b ++ t) ++ rest)) ≡ t ++ rest =
      sym (drop-drop (length c) p (take p out ++ ((b ++ t) ++ rest)))
      ∙ ap (drop (length c)) (drop_at (take p out) ((b ++ t) ++ rest) p k ∙ append_assoc b t rest)
      ∙ drop_at b (t ++ rest) (length c) (sym e) in
      (λ i. take_at (take p out) ((b ++ t) ++ rest) p k i ++ (c ++ tail i))
      ∙ ap (λ (x : List ℕ). take p out ++ x) (sym (append_assoc c t rest))
      ∙ ap (λ (n : ℕ). take p out ++ ((c ++ t) ++ drop n out)) l

  first_part : (p : ℕ) (b t : List ℕ) → p ≤ length out → take (length b) (drop p (with_text out p (b ++ t))) ≡ b
  unfolding with_text
  first_part p b t room =
      let rest = drop (p + length (b ++ t)) out in
      ap (take (length b)) (drop_at (take p out) ((b ++ t) ++ rest) p (length-take-le p out room) ∙ append_assoc b t rest) ∙ take_at b (t ++ rest) (length b) refl

  -- blanks that stand are blanks of the text
  pub with_lead : (at k : ℕ) (t b : List ℕ) → take k (drop at out) ≡ b → length b ≡ k → with_text out (at + k) t ≡ with_text out at (b ++ t)
  unfolding with_text
  with_lead at k t b e l =
      let n : at + k + length t ≡ at + length (b ++ t) = omega (arith, length-append b t) in
      (λ i. (take-add at k out ∙ ap (λ (x : List ℕ). take at out ++ x) e) i ++ (t ++ drop (n i) out))
      ∙ append_assoc (take at out) b (t ++ drop (at + length (b ++ t)) out)
      ∙ ap (λ (x : List ℕ). take at out ++ x) (sym (append_assoc b t (drop (at + length (b ++ t)) out)))

-- a byte more after the text
pub with_next : (out : List ℕ) (at : ℕ) (s : List ℕ) (i a : ℕ) → i ≡ at + length s → i < length out → set (with_text out at s) i a ≡ with_text out at (s ++ a ∷ [])
with_next out at s i a e l =
    one_is (with_text out at s) i a (omega (arith, with_length out at s (omega arith))) ∙ ap (λ (n : ℕ). with_text (with_text out at s) n (a ∷ [])) e ∙ with_after out at s (omega arith) (a ∷ [])

-- the same inside a text
module _ (out : List ℕ) (at : ℕ) (s b t : List ℕ) (room : at + length (s ++ (b ++ t)) ≤ length out) where
  short : at + length s ≤ length out
  short = omega (arith, length-append s (b ++ t))

  long : at + length s + length (b ++ t) ≤ length (with_text out at s)
  long = omega (arith, length-append s (b ++ t), with_length out at s short)

  pub with_over : (c : List ℕ) → length c ≡ length b → with_text (with_text out at (s ++ (b ++ t))) (at + length s) c ≡ with_text out at (s ++ (c ++ t))
  with_over c e =
      ap (λ (x : List ℕ). with_text x (at + length s) c) (sym (with_after out at s short (b ++ t))) ∙ over_first (with_text out at s) (at + length s) b c t long e ∙ with_after out at s short (c ++ t)

  pub middle : take (length b) (drop (at + length s) (with_text out at (s ++ (b ++ t)))) ≡ b
  middle = ap (λ (x : List ℕ). take (length b) (drop (at + length s) x)) (sym (with_after out at s short (b ++ t))) ∙ first_part (with_text out at s) (at + length s) b t (omega (arith, short, with_length out at s short))
