-- The counts of a plan's entries stay within their ranges, and end as the plan's end says.
-- Assumes nothing.
use Rattle.std.specs.Prelude.{◌≡◌, refl, Bool, true, false, cond, List, [], ◌∷◌, ℕ, ◌+◌, ◌^◌, ◌≤◌, ◌<◌, max, eqb, length}
use Rattle.std.proofs.Common.{◌∙◌, arith}
use Rattle.plan.specs.declared.types.Entry.{Entry}
use Rattle.plan.specs.declared.types.Entry.TheVariants as entry
use Rattle.plan.specs.Out.{Plan}
use Rattle.plan.specs.Run.{rectangles, words_from, end_of}
use Rattle.plan.specs.Sound.{entry_line}
use Rattle.words.specs.declared.count.Counts.{Counts}
use Rattle.words.specs.Counts.{zero_counts, counted_of, counted_all, end_with, Countable}

line_kept : (t : Bool) (line old : ℕ) → line ≤ 65535 → old ≤ 65535 → cond t line old ≤ 65535
line_kept true line old h k = h
line_kept false line old h k = k

-- the next counts are such again while the entries are few enough
pub counted_countable : (n : Counts) (e : Entry) → Countable n → n.entries + 1 < 2 ^ 62 → entry_line e ≤ 65535 → Countable (counted_of n e)
unfolding counted_of
counted_countable n (entry.Image fmt siz width address) h m l = record { entries = m; rectangles = omega arith; line = h.line }
counted_countable n (entry.Tile i fmt siz line tmem palette cms cmt masks maskt) h m l = record { entries = m; rectangles = omega arith; line = line_kept (eqb i 7) line n.line l h.line }
counted_countable n (entry.Size i uls ult lrs lrt) h m l = record { entries = m; rectangles = omega arith; line = h.line }
counted_countable n (entry.Load i uls ult lrs lrt words rows stride start len) h m l = record { entries = m; rectangles = omega arith; line = h.line }
counted_countable n (entry.Rect i ulx uly lrx lry uls ult dsdx dtdy row) h m l = record { entries = m; rectangles = omega arith; line = h.line }

pub zero_countable : Countable zero_counts
zero_countable = record { entries = omega arith; rectangles = omega arith; line = omega arith }

pub counted_entries : (n : Counts) (e : Entry) → (counted_of n e).entries ≡ n.entries + 1
unfolding counted_of
counted_entries n (entry.Image fmt siz width address) = refl
counted_entries n (entry.Tile i fmt siz line tmem palette cms cmt masks maskt) = refl
counted_entries n (entry.Size i uls ult lrs lrt) = refl
counted_entries n (entry.Load i uls ult lrs lrt words rows stride start len) = refl
counted_entries n (entry.Rect i ulx uly lrx lry uls ult dsdx dtdy row) = refl

-- from any counts: entries and rectangles are added, and tile words are the larger
pub entries_all : (n : Counts) (es : List Entry) → (counted_all n es).entries ≡ n.entries + length es
unfolding counted_all
entries_all n [] = omega arith
entries_all n (e ∷ es) = omega (arith, entries_all (counted_of n e) es, counted_entries n e)

counted_rectangles : (n : Counts) (e : Entry) (es : List Entry) → (counted_of n e).rectangles + rectangles es ≡ n.rectangles + rectangles (e ∷ es)
unfolding counted_of rectangles
counted_rectangles n (entry.Image fmt siz width address) es = refl
counted_rectangles n (entry.Tile i fmt siz line tmem palette cms cmt masks maskt) es = refl
counted_rectangles n (entry.Size i uls ult lrs lrt) es = refl
counted_rectangles n (entry.Load i uls ult lrs lrt words rows stride start len) es = refl
counted_rectangles n (entry.Rect i ulx uly lrx lry uls ult dsdx dtdy row) es = omega arith

pub rectangles_all : (n : Counts) (es : List Entry) → (counted_all n es).rectangles ≡ n.rectangles + rectangles es
unfolding counted_all rectangles
rectangles_all n [] = omega arith
rectangles_all n (e ∷ es) = rectangles_all (counted_of n e) es ∙ counted_rectangles n e es

counted_words : (n : Counts) (e : Entry) (es : List Entry) → max (counted_of n e).words (words_from (counted_of n e).line es) ≡ max n.words (words_from n.line (e ∷ es))
unfolding counted_of words_from
counted_words n (entry.Image fmt siz width address) es = refl
counted_words n (entry.Tile i fmt siz line tmem palette cms cmt masks maskt) es = refl
counted_words n (entry.Size i uls ult lrs lrt) es = refl
counted_words n (entry.Load i uls ult lrs lrt words rows stride start len) es = omega arith
counted_words n (entry.Rect i ulx uly lrx lry uls ult dsdx dtdy row) es = refl

pub words_all : (n : Counts) (es : List Entry) → (counted_all n es).words ≡ max n.words (words_from n.line es)
unfolding counted_all words_from
words_all n [] = omega arith
words_all n (e ∷ es) = words_all (counted_of n e) es ∙ counted_words n e es

-- so from zero the counts of a plan's entries end as its end says
pub end_of_lem : (p : Plan) → end_with (counted_all zero_counts p.entries) p.verdict ≡ end_of p
unfolding end_of
end_of_lem p =
    let es = p.entries in
    let n : (counted_all zero_counts es).entries ≡ length es = omega (arith, entries_all zero_counts es) in
    let r : (counted_all zero_counts es).rectangles ≡ rectangles es = omega (arith, rectangles_all zero_counts es) in
    let w : (counted_all zero_counts es).words ≡ words_from 0 es = omega (arith, words_all zero_counts es) in
    rw (n, r, w)
