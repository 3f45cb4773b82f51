-- The text of a plan: D "Columns are right-justified decimals, negative ones with a minus sign: kind 2 wide, addresses and length 21, the rest 8". D is docs/SPECIFICATION.md, sections 9 and 12.
-- Assumes nothing.
use Rattle.std.specs.Prelude.{Bool, cond, ◌&&◌, List, [], ◌∷◌, ◌++◌, ℕ, zero, suc, ◌+◌, ◌-◌, ◌/◌, ◌%◌, ◌^◌, ltb, leb, length, replicate}
use Rattle.plan.specs.declared.types.Entry.{Entry}
use Rattle.plan.specs.declared.types.Entry.TheVariants as entry
use Rattle.plan.specs.declared.types.End.{End}
use Rattle.plan.specs.Out.{Plan}
use Rattle.plan.specs.Run.{entry_words, end_words, end_of}

-- the bytes of a blank, a minus sign and a line end
abbrev pub space : ℕ
space = 32

abbrev pub minus : ℕ
minus = 45

abbrev pub newline : ℕ
newline = 10

-- a number's digits, the last w of them at the most
unfoldable pub digits_of : (w n : ℕ) → List ℕ
digits_of zero n = []
digits_of (suc w) n = cond (leb 10 n) (digits_of w (n / 10)) [] ++ ((48 + n % 10) ∷ [])

-- w places with no digit: blanks, and the mark last
unfoldable pub leading : (mark w : ℕ) → List ℕ
leading mark zero = []
leading mark (suc w) = replicate w space ++ (mark ∷ [])

-- a number in w places, right-justified
unfoldable pub column : (mark w n : ℕ) → List ℕ
column mark w n = leading mark (w - length (digits_of w n)) ++ digits_of w n

-- a word in w places; addresses and lengths, 21 wide, are never negative
abbrev pub is_negative : (w x : ℕ) → Bool
is_negative w x = ltb w 21 && leb (2 ^ 63) x

abbrev pub magnitude_of : (w x : ℕ) → ℕ
magnitude_of w x = cond (is_negative w x) (2 ^ 64 - x) x

unfoldable pub cell : (w x : ℕ) → List ℕ
cell w x = column (cond (is_negative w x) minus space) w (magnitude_of w x)

-- a row's words in columns of these widths, none where a width is 0
unfoldable pub row : (widths words : List ℕ) → List ℕ
row [] xs = []
row (w ∷ ws) [] = []
row (w ∷ ws) (x ∷ xs) = cell w x ++ row ws xs

abbrev pub line : (widths words : List ℕ) → List ℕ
line ws xs = row ws xs ++ (newline ∷ [])

unfoldable pub widths_of : Entry → List ℕ
widths_of (entry.Image fmt siz width address) = 2 ∷ 8 ∷ 8 ∷ 8 ∷ 21 ∷ 0 ∷ 0 ∷ 0 ∷ 0 ∷ 0 ∷ 0 ∷ []
widths_of (entry.Tile i fmt siz line tmem palette cms cmt masks maskt) = 2 ∷ 8 ∷ 8 ∷ 8 ∷ 8 ∷ 8 ∷ 8 ∷ 8 ∷ 8 ∷ 8 ∷ 8 ∷ []
widths_of (entry.Size i uls ult lrs lrt) = 2 ∷ 8 ∷ 8 ∷ 8 ∷ 8 ∷ 8 ∷ 0 ∷ 0 ∷ 0 ∷ 0 ∷ 0 ∷ []
widths_of (entry.Load i uls ult lrs lrt words rows stride start len) = 2 ∷ 8 ∷ 8 ∷ 8 ∷ 8 ∷ 8 ∷ 8 ∷ 8 ∷ 8 ∷ 21 ∷ 21 ∷ []
widths_of (entry.Rect i ulx uly lrx lry uls ult dsdx dtdy row) = 2 ∷ 8 ∷ 8 ∷ 8 ∷ 8 ∷ 8 ∷ 8 ∷ 8 ∷ 8 ∷ 8 ∷ 8 ∷ []

unfoldable pub entry_text : Entry → List ℕ
entry_text e = line (widths_of e) (entry_words e)

-- D "9 end, returned and not stored (verdict, entries, rectangles, tile words)"
abbrev pub end_widths : List ℕ
end_widths = 2 ∷ 8 ∷ 8 ∷ 8 ∷ 8 ∷ 0 ∷ 0 ∷ 0 ∷ 0 ∷ 0 ∷ 0 ∷ []

unfoldable pub end_text : End → List ℕ
end_text e = line end_widths (end_words e)

-- D "It prints each step's kind and numbers"
unfoldable pub entries_text : List Entry → List ℕ
entries_text [] = []
entries_text (e ∷ es) = entry_text e ++ entries_text es

unfoldable pub plan_text : Plan → List ℕ
plan_text p = entries_text p.entries ++ end_text (end_of p)
