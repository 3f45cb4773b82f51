-- Folds over a plan's entries: the bank, the counts, the words; and a whole run into a buffer. D is docs/SPECIFICATION.md.
-- Assumes nothing.
use Rattle.std.specs.Prelude.{cond, List, [], ◌∷◌, ◌++◌, ℕ, ◌+◌, ◌*◌, ◌/◌, max, ltb, eqb, length, take, drop}
use Rattle.signed.specs.Cast.{word}
use Rattle.checks.specs.Check.{verdict_number}
use Rattle.plan.specs.declared.types.Entry.{Entry}
use Rattle.plan.specs.Out.{Plan}
use Rattle.tile.specs.declared.bank.Tile.{Tile}
use Rattle.plan.specs.declared.types.Entry.TheVariants as entry
use Rattle.plan.specs.declared.types.End.{End}
use Rattle.object.specs.declared.types.Verdict.TheVariants.{Full}
use Rattle.tile.specs.declared.bank.Bank.{Bank}
use Rattle.tile.specs.Bank.{set_tile, set_size}

-- the tile that an entry names; D "unnamed parts become 0"
abbrev pub descriptor : (fmt siz line tmem palette cms cmt masks maskt : ℕ) → Tile
descriptor fmt siz line tmem palette cms cmt masks maskt =
    record { uls = 0; ult = 0; lrs = 0; lrt = 0; width = 0; height = 0; fmt = fmt; siz = siz; palette = palette; cms = cms; cmt = cmt; masks = masks; maskt = maskt; shifts = 0; shiftt = 0; line = line; tmem_addr = tmem }

-- D "The size that a load sets itself is no entry of its own"
unfoldable pub bank_step : Bank → Entry → Bank
bank_step b (entry.Image fmt siz width address) = b
bank_step b (entry.Tile i fmt siz line tmem palette cms cmt masks maskt) = set_tile b i (descriptor fmt siz line tmem palette cms cmt masks maskt)
bank_step b (entry.Size i uls ult lrs lrt) = set_size b i uls ult lrs lrt
bank_step b (entry.Load i uls ult lrs lrt words rows stride start len) = set_size b i uls ult lrs lrt
bank_step b (entry.Rect i ulx uly lrx lry uls ult dsdx dtdy row) = b

unfoldable pub bank_after : Bank → List Entry → Bank
bank_after b [] = b
bank_after b (e ∷ es) = bank_after (bank_step b e) es

-- D "the bank is as after the entries that stand, with one exception"
unfoldable pub bank_of : Plan → Bank → Bank
bank_of p b = bank_after b (p.entries ++ p.left)

unfoldable pub rectangles : List Entry → ℕ
rectangles [] = 0
rectangles (entry.Image fmt siz width address ∷ es) = rectangles es
rectangles (entry.Tile i fmt siz line tmem palette cms cmt masks maskt ∷ es) = rectangles es
rectangles (entry.Size i uls ult lrs lrt ∷ es) = rectangles es
rectangles (entry.Load i uls ult lrs lrt words rows stride start len ∷ es) = rectangles es
rectangles (entry.Rect i ulx uly lrx lry uls ult dsdx dtdy row ∷ es) = 1 + rectangles es

-- D "Tile words are the largest rows × line of any single load given, 0 if none; .. line is tile 7's at that load", from a line of tile 7
unfoldable pub words_from : ℕ → List Entry → ℕ
words_from l [] = 0
words_from l (entry.Image fmt siz width address ∷ es) = words_from l es
words_from l (entry.Tile i fmt siz line tmem palette cms cmt masks maskt ∷ es) = words_from (cond (eqb i 7) line l) es
words_from l (entry.Size i uls ult lrs lrt ∷ es) = words_from l es
words_from l (entry.Load i uls ult lrs lrt words rows stride start len ∷ es) = max (rows * l) (words_from l es)
words_from l (entry.Rect i ulx uly lrx lry uls ult dsdx dtdy row ∷ es) = words_from l es

-- from 0, though the bank may hold another line: every load of a plan stands after a setting of tile 7 (`tile_words_lem` in crates/demands)
abbrev pub tile_words : List Entry → ℕ
tile_words es = words_from 0 es

-- D "entries of eleven 64-bit words: kind, then the numbers below, unused words 0, signed ones modulo 2^64"
unfoldable pub entry_words : Entry → List ℕ
entry_words (entry.Image fmt siz width address) = 1 ∷ fmt ∷ siz ∷ width ∷ address ∷ 0 ∷ 0 ∷ 0 ∷ 0 ∷ 0 ∷ 0 ∷ []
entry_words (entry.Tile i fmt siz line tmem palette cms cmt masks maskt) = 2 ∷ i ∷ fmt ∷ siz ∷ line ∷ tmem ∷ palette ∷ cms ∷ cmt ∷ masks ∷ maskt ∷ []
entry_words (entry.Size i uls ult lrs lrt) = 3 ∷ i ∷ uls ∷ ult ∷ lrs ∷ lrt ∷ 0 ∷ 0 ∷ 0 ∷ 0 ∷ 0 ∷ []
entry_words (entry.Load i uls ult lrs lrt words rows stride start len) = 4 ∷ i ∷ uls ∷ ult ∷ lrs ∷ lrt ∷ words ∷ rows ∷ stride ∷ start ∷ len ∷ []
entry_words (entry.Rect i ulx uly lrx lry uls ult dsdx dtdy row) = 5 ∷ i ∷ ulx ∷ uly ∷ lrx ∷ lry ∷ word uls ∷ word ult ∷ word dsdx ∷ word dtdy ∷ row ∷ []

unfoldable pub plan_words : List Entry → List ℕ
plan_words [] = []
plan_words (e ∷ es) = entry_words e ++ plan_words es

-- D "9 end, returned and not stored (verdict, entries, rectangles, tile words)": an end as what a step answers
abbrev pub end_words : End → List ℕ
end_words e = 9 ∷ verdict_number e.verdict ∷ e.entries ∷ e.rectangles ∷ e.words ∷ 0 ∷ 0 ∷ 0 ∷ 0 ∷ 0 ∷ 0 ∷ []

unfoldable pub end_of : Plan → End
end_of p = record { verdict = p.verdict; entries = length p.entries; rectangles = rectangles p.entries; words = tile_words p.entries }

-- D verdict 10: the plan cut where under eleven words of a buffer of n are left and another entry comes; a refusal of the next entry is given though the buffer is full
unfoldable pub cut_at : ℕ → Plan → Plan
cut_at n p = cond (ltb (n / 11) (length p.entries)) (record { entries = take (n / 11) p.entries; left = []; verdict = Full }) p

-- what a whole run leaves: buffer, bank and end
pub record Ran : Type 0 where
  pub buffer : List ℕ
  pub bank : Bank
  pub end : End

-- D "Words beyond the last entry are unchanged"
unfoldable pub run_of : Plan → List ℕ → Bank → Ran
run_of p buf b =
    let cut = cut_at (length buf) p in
    record { buffer = plan_words cut.entries ++ drop (11 * length cut.entries) buf; bank = bank_of cut b; end = end_of cut }
