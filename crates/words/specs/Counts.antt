-- The counts that go with a plan's entries, one entry after another. D is docs/SPECIFICATION.md, section 10.
-- Assumes nothing.
use Rattle.std.specs.Prelude.{cond, List, [], ◌∷◌, ◌+◌, ◌*◌, ◌^◌, ◌≤◌, ◌<◌, max, eqb}
use Rattle.object.specs.declared.types.Verdict.{Verdict}
use Rattle.plan.specs.declared.types.Entry.{Entry}
use Rattle.plan.specs.declared.types.Entry.TheVariants as entry
use Rattle.plan.specs.declared.types.End.{End}
use Rattle.words.specs.declared.count.Counts.{Counts}

abbrev pub zero_counts : Counts
zero_counts = record { entries = 0; rectangles = 0; words = 0; line = 0 }

-- D "Tile words are the largest rows × line of any single load given, 0 if none; .. line is tile 7's at that load"
unfoldable pub counted_of : Counts → Entry → Counts
counted_of n (entry.Image fmt siz width address) = record { entries = n.entries + 1; rectangles = n.rectangles; words = n.words; line = n.line }
counted_of n (entry.Tile i fmt siz line tmem palette cms cmt masks maskt) = record { entries = n.entries + 1; rectangles = n.rectangles; words = n.words; line = cond (eqb i 7) line n.line }
counted_of n (entry.Size i uls ult lrs lrt) = record { entries = n.entries + 1; rectangles = n.rectangles; words = n.words; line = n.line }
counted_of n (entry.Load i uls ult lrs lrt words rows stride start len) = record { entries = n.entries + 1; rectangles = n.rectangles; words = max n.words (rows * n.line); line = n.line }
counted_of n (entry.Rect i ulx uly lrx lry uls ult dsdx dtdy row) = record { entries = n.entries + 1; rectangles = n.rectangles + 1; words = n.words; line = n.line }

unfoldable pub counted_all : Counts → List Entry → Counts
counted_all n [] = n
counted_all n (e ∷ es) = counted_all (counted_of n e) es

-- the end of a plan with these counts
abbrev pub end_with : Counts → Verdict → End
end_with n v = record { verdict = v; entries = n.entries; rectangles = n.rectangles; words = n.words }

-- counts that no sum or product takes past 2^64 at the next entry
pub record Countable (n : Counts) : Type 0 where
  pub entries : n.entries < 2 ^ 62
  pub rectangles : n.rectangles ≤ n.entries
  pub line : n.line ≤ 65535
