-- A row is its cells, one after another: what is written, and blanks for what is still to come.
-- Assumes nothing.
use mathlib.Core.Path.{◌≡◌, refl, sym, ap, ◌∙◌}
use mathlib.Core.List.{List, [], ◌∷◌, ◌++◌, append_assoc, append-nil}
use Prim.Native.Nat.{ℕ, ◌+◌, ◌-◌, ◌≤◌}
use native.Mathlib.Omega.{arith}
use lib.ListN.{length, take, drop, set, replicate, length-append, length-replicate, replicate-append-replicate}
use Rattle.plan.specs.declared.types.Entry.{Entry}
use Rattle.plan.specs.declared.types.Entry.TheVariants as entry
use Rattle.plan.specs.Run.{entry_words}
use Rattle.words.specs.Eleven.{eleven}
use Rattle.lines.specs.Text.{space, newline, cell, row, line, widths_of, entry_text}
use Rattle.lines.specs.Lines.{with_text, Blank, PutIs, total_of}
use Rattle.lines.proofs.Texts.{with_length, with_again, with_over, with_next, middle}
use Rattle.lines.proofs.Columns.{cell_length}

-- a row of which the widths vs and the words ys are still to come, over blanks
pub record Filled (ws xs out₀ : List ℕ) (start : ℕ) (out : List ℕ) (at : ℕ) (vs ys : List ℕ) : Type 0 where
  pub even : length vs ≡ length ys
  pub done : List ℕ
  pub place : at ≡ start + length done
  pub room : length done + total_of vs ≡ total_of ws
  pub is : done ++ row vs ys ≡ row ws xs
  pub stands : out ≡ with_text out₀ start (done ++ replicate (total_of vs) space)

pub blanks_are : (ws out : List ℕ) (start n : ℕ) (out₀ : List ℕ) → n ≡ total_of ws → out₀ ≡ with_text out start (replicate (start + n - start) space) → out₀ ≡ with_text out start (replicate (total_of ws) space)
blanks_are ws out start n out₀ i e = let m : start + n - start ≡ total_of ws = omega arith in e ∙ ap (λ (k : ℕ). with_text out start (replicate k space)) m

-- blanks are put first
module _ (ws xs out : List ℕ) (start : ℕ) (fits : start + total_of ws + 1 ≤ length out) (out₀ : List ℕ) (e : out₀ ≡ with_text out start (replicate (total_of ws) space)) where
  room : start + length (replicate (total_of ws) space) ≤ length out
  room = omega (arith, fits, length-replicate (total_of ws) space)

  pub blank_same : length out₀ ≡ length out
  blank_same = ap length e ∙ with_length out start (replicate (total_of ws) space) room

  pub filled_start : length ws ≡ length xs → Filled ws xs out₀ start out₀ start ws xs
  filled_start l =
      let bs = replicate (total_of ws) space in
      record {
        even = l;
        done = [];
        place = omega arith;
        room = omega arith;
        is = refl;
        stands = e ∙ sym (with_again out start bs room bs (omega arith)) ∙ ap (λ (o : List ℕ). with_text o start bs) (sym e);
      }

  -- what stands over the blanks stands there without them
  pub over_blanks : (t out' : List ℕ) (r : ℕ) → total_of ws ≤ length t → PutIs out₀ start t out' r → PutIs out start t out' r
  over_blanks t out' r l p =
      record {
        next = p.next;
        is = p.is ∙ ap (λ (o : List ℕ). with_text o start t) e ∙ with_again out start (replicate (total_of ws) space) room t (omega (arith, length-replicate (total_of ws) space));
      }

module _ (ws xs out₀ : List ℕ) (start : ℕ) (fits : start + total_of ws + 1 ≤ length out₀) (out : List ℕ) (at : ℕ) where
  -- the blanks that are left, the next column's first
  module _ (w y : ℕ) (vs ys : List ℕ) (h : Filled ws xs out₀ start out at (w ∷ vs) (y ∷ ys)) where
    rest : ℕ
    rest = total_of vs

    split : out ≡ with_text out₀ start (h.done ++ (replicate w space ++ replicate rest space))
    unfolding rest total_of
    split = h.stands ∙ ap (λ (bs : List ℕ). with_text out₀ start (h.done ++ bs)) (sym (replicate-append-replicate w rest space))

    total_is : length h.done + (w + rest) ≡ total_of ws
    unfolding rest total_of
    total_is = h.room

    inside : start + length (h.done ++ (replicate w space ++ replicate rest space)) ≤ length out₀
    inside = omega (arith, fits, total_is, length-append h.done (replicate w space ++ replicate rest space), length-append (replicate w space) (replicate rest space), length-replicate w space, length-replicate rest space)

    same : length out ≡ length out₀
    same = ap length split ∙ with_length out₀ start (h.done ++ (replicate w space ++ replicate rest space)) inside

    pub filled_blank : Blank out at w
    filled_blank =
        let wide = length-replicate w space in
        record {
          room = omega (arith, fits, total_is, same, h.place);
          blank = (λ i. take (sym wide i) (drop (h.place i) (split i))) ∙ middle out₀ start h.done (replicate w space) (replicate rest space) inside;
        }

    pub filled_more : (out' : List ℕ) (at' : ℕ) → PutIs out at (cell w y) out' at' → Filled ws xs out₀ start out' at' vs ys
    unfolding rest row
    filled_more out' at' p =
        let c = cell w y in
        let n = cell_length w y in
        record {
          even = omega (arith, h.even);
          done = h.done ++ c;
          place = omega (arith, p.next, h.place, length-append h.done c);
          room = omega (arith, length-append h.done c, n, total_is);
          is = append_assoc h.done c (row vs ys) ∙ h.is;
          stands =
              p.is
              ∙ (λ i. with_text (split i) (h.place i) c)
              ∙ with_over out₀ start h.done (replicate w space) (replicate rest space) inside c (n ∙ sym (length-replicate w space))
              ∙ ap (with_text out₀ start) (sym (append_assoc h.done c (replicate rest space)));
        }

  -- the row stands, and its end is put after it
  module _ (h : Filled ws xs out₀ start out at [] []) where
    row_is : h.done ≡ row ws xs
    unfolding row
    row_is = sym (append-nil h.done) ∙ h.is

    row_stands : out ≡ with_text out₀ start (row ws xs)
    unfolding total_of
    row_stands = h.stands ∙ ap (with_text out₀ start) (append-nil h.done ∙ row_is)

    pub filled_end : at ≡ start + total_of ws
    unfolding total_of
    filled_end = omega (arith, h.place, h.room)

    pub line_long : total_of ws ≤ length (line ws xs)
    line_long = omega (arith, filled_end, h.place, ap length row_is, length-append (row ws xs) (newline ∷ []))

    pub filled_line : PutIs out₀ start (line ws xs) (set out at newline) (at + 1)
    filled_line =
        let long = ap length row_is in
        record {
          next = omega (arith, h.place, long, length-append (row ws xs) (newline ∷ []));
          is = ap (λ (o : List ℕ). set o at newline) row_stands ∙ with_next out₀ start (row ws xs) at newline (omega (arith, h.place, long)) (omega (arith, fits, filled_end));
        }

-- every entry's columns fit a line
pub widths_fit : (e : Entry) → total_of (widths_of e) ≤ 127
unfolding widths_of total_of
widths_fit (entry.Image fmt siz width address) = omega arith
widths_fit (entry.Tile i fmt siz line tmem palette cms cmt masks maskt) = omega arith
widths_fit (entry.Size i uls ult lrs lrt) = omega arith
widths_fit (entry.Load i uls ult lrs lrt words rows stride start len) = omega arith
widths_fit (entry.Rect i ulx uly lrx lry uls ult dsdx dtdy row) = omega arith

row_length : (ws xs : List ℕ) → length ws ≡ length xs → length (row ws xs) ≡ total_of ws
unfolding row total_of
row_length [] xs e = refl
row_length (w ∷ ws) [] e = absurd (omega arith)
row_length (w ∷ ws) (x ∷ xs) e = length-append (cell w x) (row ws xs) ∙ omega (arith, cell_length w x, row_length ws xs (omega arith))

eleven_widths : (e : Entry) → length (widths_of e) ≡ 11
unfolding widths_of
eleven_widths (entry.Image fmt siz width address) = refl
eleven_widths (entry.Tile i fmt siz line tmem palette cms cmt masks maskt) = refl
eleven_widths (entry.Size i uls ult lrs lrt) = refl
eleven_widths (entry.Load i uls ult lrs lrt words rows stride start len) = refl
eleven_widths (entry.Rect i ulx uly lrx lry uls ult dsdx dtdy row) = refl

pub entry_most : (e : Entry) → length (entry_text e) ≤ 128
unfolding entry_text
entry_most e =
    omega (arith, length-append (row (widths_of e) (entry_words e)) (newline ∷ []), row_length (widths_of e) (entry_words e) (eleven_widths e ∙ sym (eleven e)), widths_fit e)
