-- Tests joined from the left, as the code joins them, and what they say together.
-- Assumes nothing.
use Rattle.std.specs.Prelude.{Bool, ◌&&◌, List, [], ◌∷◌, ℕ, ◌+◌, ◌^◌, leb}
use Rattle.words.specs.declared.count.Counts.{Counts}

abbrev pub all_of : Bool → List Bool → Bool
all_of t [] = t
all_of t (u ∷ us) = all_of (t && u) us

-- a word that lies in a range with both its ends
abbrev pub within : (a b n : ℕ) → Bool
within a b n = leb a n && leb n b

-- counts that go with a course that has at most so many entries to come
abbrev pub counts_test : Counts → ℕ → Bool
counts_test n left = all_of (leb (n.entries + left) (2 ^ 40)) (leb n.rectangles n.entries ∷ leb n.line 65535 ∷ [])
