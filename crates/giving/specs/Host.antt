-- The bank and an end as words for hosts: a tile is seventeen numbers, in its fields' order, and a bank its eight tiles' numbers, one after another. D is docs/SPECIFICATION.md, sections 5 and 10.
-- Assumes nothing.
use Rattle.std.specs.Prelude.{drop, get_or}
use Rattle.std.proofs.Math.Bool.{cond}
use mathlib.Core.List.{List, [], ◌∷◌, ◌++◌}
use Prim.Native.Nat.{ℕ, zero, suc, ◌+◌, ◌*◌, ◌/◌, ◌%◌, ◌^◌}
use Rattle.std.proofs.Math.Dec.{ltb}
use Rattle.std.proofs.Math.ListN.{length}
use Rattle.std.proofs.Math.Seq.{paste}
use Rattle.checks.specs.Check.{verdict_number}
use Rattle.tile.specs.declared.bank.Tile.{Tile}
use Rattle.tile.specs.declared.bank.Bank.{Bank}
use Rattle.tile.specs.Bank.{extent}
use Rattle.plan.specs.declared.types.Entry.{Entry}
use Rattle.plan.specs.declared.types.Entry.TheVariants as entry
use Rattle.plan.specs.declared.types.End.{End}
use Rattle.plan.specs.Check.{tiles_numbers}
use Rattle.plan.specs.Out.{Plan}
use Rattle.plan.specs.Run.{plan_words, end_of, cut_at}

unfoldable pub bank_numbers : Bank → List ℕ
bank_numbers b = tiles_numbers b.tiles

-- a number cut to its field's width
abbrev pub half_at : List ℕ → ℕ → ℕ
half_at ns k = get_or ns k 0 % 2 ^ 16

abbrev pub byte_at : List ℕ → ℕ → ℕ
byte_at ns k = get_or ns k 0 % 2 ^ 8

unfoldable pub tile_from : List ℕ → Tile
tile_from ns =
    record {
      uls = half_at ns 0;
      ult = half_at ns 1;
      lrs = half_at ns 2;
      lrt = half_at ns 3;
      width = half_at ns 4;
      height = half_at ns 5;
      fmt = byte_at ns 6;
      siz = byte_at ns 7;
      palette = byte_at ns 8;
      cms = byte_at ns 9;
      cmt = byte_at ns 10;
      masks = byte_at ns 11;
      maskt = byte_at ns 12;
      shifts = byte_at ns 13;
      shiftt = byte_at ns 14;
      line = half_at ns 15;
      tmem_addr = half_at ns 16;
    }

unfoldable pub tiles_from : ℕ → List ℕ → List Tile
tiles_from zero ns = []
tiles_from (suc n) ns = tile_from ns ∷ tiles_from n (drop 17 ns)

-- any 136 words give a bank
unfoldable pub bank_from : List ℕ → Bank
bank_from ns = record { tiles = tiles_from 8 ns }

-- D "9 end, returned and not stored (verdict, entries, rectangles, tile words)"
unfoldable pub end_numbers : End → List ℕ
end_numbers e = verdict_number e.verdict ∷ e.entries ∷ e.rectangles ∷ e.words ∷ []

-- n words set in tile i from its word k on; nothing where the words have no tile i
abbrev pub set_in : (ws : List ℕ) → (i k : ℕ) → (xs : List ℕ) → (n : ℕ) → List ℕ
set_in ws i k xs n = cond (ltb i (length ws / 17)) (paste ws (i * 17 + k) xs n) ws

-- D "Setting one keeps its four bounds, width and height and replaces all else", "unnamed parts become 0"
abbrev pub tile_in : (ws : List ℕ) → (i fmt siz line tmem palette cms cmt masks maskt : ℕ) → List ℕ
tile_in ws i fmt siz line tmem palette cms cmt masks maskt = set_in ws i 6 (fmt ∷ siz ∷ palette ∷ cms ∷ cmt ∷ masks ∷ maskt ∷ 0 ∷ 0 ∷ line ∷ tmem ∷ []) 11

-- D "width to max(1, floor((lrs − uls) / 4) + 1), height likewise"
abbrev pub bounds_in : (ws : List ℕ) → (i uls ult lrs lrt : ℕ) → List ℕ
bounds_in ws i uls ult lrs lrt = set_in ws i 0 (uls ∷ ult ∷ lrs ∷ lrt ∷ extent uls lrs ∷ extent ult lrt ∷ []) 6

-- what an entry sets in a bank's words; every other word stays
unfoldable pub words_step : List ℕ → Entry → List ℕ
words_step ws (entry.Image fmt siz width address) = ws
words_step ws (entry.Tile i fmt siz line tmem palette cms cmt masks maskt) = tile_in ws i fmt siz line tmem palette cms cmt masks maskt
words_step ws (entry.Size i uls ult lrs lrt) = bounds_in ws i uls ult lrs lrt
words_step ws (entry.Load i uls ult lrs lrt words rows stride start len) = bounds_in ws i uls ult lrs lrt
words_step ws (entry.Rect i ulx uly lrx lry uls ult dsdx dtdy row) = ws

unfoldable pub words_after : List ℕ → List Entry → List ℕ
words_after ws [] = ws
words_after ws (e ∷ es) = words_after (words_step ws e) es

-- what a whole run leaves of a buffer and of a bank's words
pub record RanWords : Type 0 where
  pub buffer : List ℕ
  pub bank : List ℕ
  pub end : End

unfoldable pub run_words : Plan → (buf ws : List ℕ) → RanWords
run_words p buf ws =
    let cut = cut_at (length buf) p in
    record { buffer = plan_words cut.entries ++ drop (11 * length cut.entries) buf; bank = words_after ws (cut.entries ++ cut.left); end = end_of cut }
