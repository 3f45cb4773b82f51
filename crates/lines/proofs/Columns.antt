-- A column: digits from the right, then the mark, over blanks that stand already.
-- Assumes nothing.
use mathlib.Core.Path.{◌≡◌, refl, sym, ap, ◌∙◌}
use mathlib.Core.Bool.{Bool, true, false, cond}
use mathlib.Core.Logic.{◌⊎◌, inl, inr}
use mathlib.Core.List.{List, [], ◌∷◌, ◌++◌, append_assoc, append-nil}
use Prim.Native.Nat.{ℕ, zero, suc, ◌+◌, ◌-◌, ◌/◌, ◌%◌, ◌≤◌, ◌<◌}
use native.Mathlib.Omega.{arith}
use lib.Dec.{leb}
use lib.ListN.{length, take, drop, set, replicate, length-append, length-replicate, replicate-append-replicate}
use lib.Seq.{take-take}
use Rattle.std.proofs.lemmas.Bool.{le-leb, lt-leb}
use Rattle.lines.specs.Text.{space, minus, digits_of, leading, column, is_negative, magnitude_of, cell}
use Rattle.lines.specs.Lines.{with_text, PutIs, Blank, DigitsIs}
use Rattle.lines.proofs.Texts.{with_nil, with_before, with_lead}

-- ---- lengths

either_most : (t : Bool) (xs : List ℕ) (w : ℕ) → length xs ≤ w → length (cond t xs []) ≤ w
either_most true xs w a = a
either_most false xs w a = omega arith

pub digits_most : (w n : ℕ) → length (digits_of w n) ≤ w
unfolding digits_of
digits_most zero n = omega arith
digits_most (suc w) n =
    let l = either_most (leb 10 n) (digits_of w (n / 10)) w (digits_most w (n / 10)) in
    omega (arith, length-append (cond (leb 10 n) (digits_of w (n / 10)) []) ((48 + n % 10) ∷ []))

leading_length : (mark w : ℕ) → length (leading mark w) ≡ w
unfolding leading
leading_length mark zero = refl
leading_length mark (suc w) = length-append (replicate w space) (mark ∷ []) ∙ omega (arith, length-replicate w space)

pub cell_length : (w x : ℕ) → length (cell w x) ≡ w
unfolding cell column
cell_length w x =
    let n = magnitude_of w x in
    let mark = cond (is_negative w x) minus space in
    length-append (leading mark (w - length (digits_of w n))) (digits_of w n) ∙ omega (arith, leading_length mark (w - length (digits_of w n)), digits_most w n)

-- ---- digits from the right

-- what is still owed, in front of what is done, is the number
pub record Writing (out₀ : List ℕ) (at end n₀ : ℕ) (out : List ℕ) (n i : ℕ) : Type 0 where
  pub from : at ≤ i
  pub done : List ℕ
  pub place : i + length done ≡ end
  pub is : digits_of (end - at) n₀ ≡ digits_of (i - at) n ++ done
  pub stands : out ≡ with_text out₀ i done

pub writing_start : (out : List ℕ) (at end n : ℕ) → at ≤ end → Writing out at end n out n end
writing_start out at end n l =
    record { from = l; done = []; place = omega arith; is = sym (append-nil (digits_of (end - at) n)); stands = sym (with_nil out end) }

module _ (out₀ : List ℕ) (at end n₀ : ℕ) (out : List ℕ) (n i : ℕ) (h : Writing out₀ at end n₀ out n i) where
  -- one place more to the left
  module _ (g : ℕ) (l : at < i) (room : end ≤ length out₀) (e : g ≡ 48 + n % 10) where
    owed : (t : Bool) → leb 10 n ≡ t → digits_of (end - at) n₀ ≡ cond t (digits_of (i - 1 - at) (n / 10)) [] ++ (g ∷ h.done)
    unfolding digits_of
    owed t b =
        let k : i - at ≡ suc (i - 1 - at) = omega arith in
        let rest = cond t (digits_of (i - 1 - at) (n / 10)) [] in
        h.is
        ∙ ap (λ (w : ℕ). digits_of w n ++ h.done) k
        ∙ ap (λ (u : Bool). (cond u (digits_of (i - 1 - at) (n / 10)) [] ++ ((48 + n % 10) ∷ [])) ++ h.done) b
        ∙ append_assoc rest ((48 + n % 10) ∷ []) h.done
        ∙ ap (λ (x : ℕ). rest ++ x ∷ h.done) (sym e)

    one_more : set out (i - 1) g ≡ with_text out₀ (i - 1) (g ∷ h.done)
    one_more =
        let j : i ≡ i - 1 + 1 = omega arith in
        let p = h.place in
        ap (λ (x : List ℕ). set x (i - 1) g) (h.stands ∙ ap (λ (x : ℕ). with_text out₀ x h.done) j) ∙ with_before out₀ (i - 1) h.done g (omega arith)

    pub writing_more : 10 ≤ n → Writing out₀ at end n₀ (set out (i - 1) g) (n / 10) (i - 1)
    writing_more m = record { from = omega arith; done = g ∷ h.done; place = omega (arith, h.place); is = owed true (le-leb 10 n m); stands = one_more }

    -- the number stands
    pub writing_last : n < 10 → DigitsIs out₀ at end n₀ (set out (i - 1) g) (i - 1)
    writing_last m =
        let d = owed false (lt-leb 10 n m) in
        record { first = omega (arith, h.place, ap length d); from = omega arith; is = one_more ∙ ap (with_text out₀ (i - 1)) (sym d) }

  -- there is no place for more of it
  pub writing_full : i ≤ at → DigitsIs out₀ at end n₀ out at
  unfolding digits_of
  writing_full l =
      let e : i ≡ at = omega (arith, h.from) in
      let k : i - at ≡ 0 = omega arith in
      let d : digits_of (end - at) n₀ ≡ h.done = h.is ∙ ap (λ (w : ℕ). digits_of w n ++ h.done) k in
      record { first = omega (arith, h.place, ap length d); from = omega arith; is = h.stands ∙ ap (λ (x : ℕ). with_text out₀ x h.done) e ∙ ap (with_text out₀ at) (sym d) }

-- ---- the mark before them

leads : (w : ℕ) → leading space w ≡ replicate w space
unfolding leading
leads zero = refl
leads (suc w) = let e : w + 1 ≡ suc w = omega arith in replicate-append-replicate w 1 space ∙ ap (λ (n : ℕ). replicate n space) e

module _ (out : List ℕ) (at w x : ℕ) (b : Blank out at w) (end : ℕ) (e : end ≡ at + w) (out' : List ℕ) (r : ℕ) (d : DigitsIs out at end (magnitude_of w x) out' r) where
  wide : end - at ≡ w
  wide = omega arith

  number : List ℕ
  number = digits_of w (magnitude_of w x)

  number_is : out' ≡ with_text out r number
  unfolding number
  number_is = d.is ∙ ap (λ (n : ℕ). with_text out r (digits_of n (magnitude_of w x))) wide

  place : r + length number ≡ at + w
  unfolding number
  place = ap (λ (n : ℕ). r + length (digits_of n (magnitude_of w x))) (sym wide) ∙ d.first ∙ e

  before : w - length number ≡ r - at
  before = omega (arith, place, d.from)

  blanks : (k : ℕ) → k ≤ w → (t : List ℕ) → with_text out (at + k) t ≡ with_text out at (replicate k space ++ t)
  blanks k l t = with_lead out at k t (replicate k space) (sym (take-take k w (drop at out) l) ∙ ap (take k) b.blank ∙ first k w l) (length-replicate k space)
    where
      first : (k w : ℕ) → k ≤ w → take k (replicate w space) ≡ replicate k space
      first zero w l = refl
      first (suc k) zero l = absurd (omega arith)
      first (suc k) (suc w) l = ap (λ (xs : List ℕ). space ∷ xs) (first k w (omega arith))

  mark : ℕ
  mark = cond (is_negative w x) minus space

  cell_is : cell w x ≡ leading mark (r - at) ++ number
  unfolding cell column number mark
  cell_is = ap (λ (n : ℕ). leading mark n ++ number) before

  put_is : (out'' : List ℕ) → out'' ≡ with_text out at (leading mark (r - at) ++ number) → PutIs out at (cell w x) out'' end
  put_is out'' i = record { next = e ∙ ap (λ (n : ℕ). at + n) (sym (cell_length w x)); is = i ∙ ap (with_text out at) (sym cell_is) }

  -- no mark, or no place for it
  plain : (t : Bool) → ((t ≡ true) × (r ≤ at)) ⊎ (t ≡ false) → leading (cond t minus space) (r - at) ≡ replicate (r - at) space
  unfolding leading
  plain true (inl i) = let k : r - at ≡ 0 = omega (arith, i.1) in ap (leading minus) k ∙ ap (λ (n : ℕ). replicate n space) (sym k)
  plain true (inr i) = cc
  plain false i = leads (r - at)

  pub put_plain : ((is_negative w x ≡ true) × (r ≤ at)) ⊎ (is_negative w x ≡ false) → PutIs out at (cell w x) out' end
  unfolding mark
  put_plain i =
      let k : r ≡ at + (r - at) = omega (arith, d.from) in
      put_is out' (
      number_is ∙ ap (λ (n : ℕ). with_text out n number) k ∙ blanks (r - at) (omega (arith, place)) number ∙ ap (λ (xs : List ℕ). with_text out at (xs ++ number)) (sym (plain (is_negative w x) i)))

  -- the minus sign before the digits
  pub put_marked : is_negative w x ≡ true → at < r → PutIs out at (cell w x) (set out' (r - 1) minus) end
  unfolding mark leading
  put_marked i l =
      let k = r - 1 - at in
      let n : r - at ≡ suc k = omega arith in
      let m : r ≡ at + k + 1 = omega arith in
      let j : r - 1 ≡ at + k = omega arith in
      let room = b.room in
      let s : set out' (r - 1) minus ≡ with_text out (at + k) (minus ∷ number) =
      ap (λ (xs : List ℕ). set xs (r - 1) minus) (number_is ∙ ap (λ (y : ℕ). with_text out y number) m) ∙ ap (λ (y : ℕ). set (with_text out (at + k + 1) number) y minus) j ∙ with_before out (at + k) number minus (omega (arith, place)) in
      put_is (set out' (r - 1) minus) (
      s
      ∙ blanks k (omega (arith, place)) (minus ∷ number)
      ∙ ap (with_text out at) (sym (append_assoc (replicate k space) (minus ∷ []) number))
      ∙ (λ y. with_text out at (leading (cond (sym i y) minus space) (sym n y) ++ number)))
