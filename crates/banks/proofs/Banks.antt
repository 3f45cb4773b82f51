-- A bank as words and out of words: number by number; and a bank whose numbers fit their fields, as entries leave it, comes back from its words.
-- Assumes nothing.
use mathlib.Core.Path.{◌≡◌, refl, ap, ◌∙◌}
use mathlib.Core.List.{List, [], ◌∷◌, ◌++◌}
use Prim.Native.Nat.{ℕ, zero, suc, ◌%◌, ◌^◌, ◌<◌, ◌≤◌}
use native.Mathlib.Nat.{mod-eq_of_lt}
use native.Mathlib.Omega.{arith}
use lib.ListN.{length, take, drop, get_or, set, length-set}
use Rattle.std.specs.Prelude.{map}
use Rattle.std.proofs.lemmas.List.{get_or-take, get_or-map, length-map}
use Rattle.std.specs.List.{flat_map}
use Rattle.std.specs.Simd.{first_chunks}
use Rattle.tile.specs.declared.bank.Tile.{Tile}
use Rattle.tile.specs.declared.bank.Bank.{Bank}
use Rattle.tile.specs.Bank.{blank, replaced, resized, extent, set_tile, set_size}
use Rattle.tile.specs.Laws.{extent_is}
use Rattle.plan.specs.declared.types.Entry.{Entry}
use Rattle.plan.specs.declared.types.Entry.TheVariants as entry
use Rattle.plan.specs.Check.{tile_numbers, tiles_numbers}
use Rattle.plan.specs.Run.{descriptor, bank_step, bank_after}
use Rattle.plan.specs.Sound.{Narrow}
use Rattle.giving.specs.Host.{tile_from, tiles_from, bank_from, bank_numbers}
use Rattle.banks.specs.Narrows.{AllNarrow}

-- ---- words into a bank

-- a tile's words are the first seventeen
tile_of : (ws : List ℕ) → tile_from (take 17 ws) ≡ tile_from ws
unfolding tile_from
tile_of ws =
    let w : (k : ℕ) → k < 17 → get_or (take 17 ws) k 0 ≡ get_or ws k 0 = λ k l. get_or-take 17 ws k 0 l in
    rw (
      w 0 (omega arith),
      w 1 (omega arith),
      w 2 (omega arith),
      w 3 (omega arith),
      w 4 (omega arith),
      w 5 (omega arith),
      w 6 (omega arith),
      w 7 (omega arith),
      w 8 (omega arith),
      w 9 (omega arith),
      w 10 (omega arith),
      w 11 (omega arith),
      w 12 (omega arith),
      w 13 (omega arith),
      w 14 (omega arith),
      w 15 (omega arith),
      w 16 (omega arith),
    ) refl

-- tiles of chunks of seventeen words are those of the words
pub tiles_are : (n : ℕ) (ws : List ℕ) (ts : List Tile) → length ts ≡ n → ((i : ℕ) → i < n → get_or ts i blank ≡ tile_from (get_or (first_chunks 17 n ws) i [])) → ts ≡ tiles_from n ws
unfolding tiles_from
tiles_are zero ws [] e h = refl
tiles_are zero ws (t ∷ ts) e h = absurd (omega arith)
tiles_are (suc n) ws [] e h = absurd (omega arith)
tiles_are (suc n) ws (t ∷ ts) e h = λ j. (h 0 (omega arith) ∙ tile_of ws) j ∷ tiles_are n (drop 17 ws) ts (omega arith) (λ i l. h (suc i) (omega arith)) j

-- so many chunks, however few words there are
chunks_long : (n : ℕ) (ws : List ℕ) → length (first_chunks 17 n ws) ≡ n
chunks_long zero ws = refl
chunks_long (suc n) ws = omega (arith, chunks_long n (drop 17 ws))

-- chunk by chunk the tiles are those of the words
pub tiles_mapped : (n : ℕ) (ws : List ℕ) → map tile_from (first_chunks 17 n ws) ≡ tiles_from n ws
tiles_mapped n ws =
    let l = chunks_long n ws in
    tiles_are n ws (map tile_from (first_chunks 17 n ws)) (length-map (first_chunks 17 n ws) tile_from ∙ l) (λ i h. get_or-map tile_from (first_chunks 17 n ws) i [] blank (omega (arith, h, l)))

-- ---- a bank into words

-- lists that are the tiles' numbers, one for each tile, are the bank's numbers one after another
pub tiles_flat : (ts : List Tile) (ns : List (List ℕ)) → length ns ≡ length ts → ((i : ℕ) → i < length ts → get_or ns i [] ≡ tile_numbers (get_or ts i blank)) → flat_map (λ x. x) ns ≡ tiles_numbers ts
unfolding tiles_numbers
tiles_flat [] [] e h = refl
tiles_flat [] (n ∷ ns) e h = absurd (omega arith)
tiles_flat (t ∷ ts) [] e h = absurd (omega arith)
tiles_flat (t ∷ ts) (n ∷ ns) e h = λ j. h 0 (omega arith) j ++ tiles_flat ts ns (omega arith) (λ i l. h (suc i) (omega arith)) j

-- ---- a bank that is written and read again

-- a tile's numbers lie within their fields' widths
pub record TileFits (t : Tile) : Type 0 where
  pub uls : t.uls < 2 ^ 16
  pub ult : t.ult < 2 ^ 16
  pub lrs : t.lrs < 2 ^ 16
  pub lrt : t.lrt < 2 ^ 16
  pub width : t.width < 2 ^ 16
  pub height : t.height < 2 ^ 16
  pub fmt : t.fmt < 2 ^ 8
  pub siz : t.siz < 2 ^ 8
  pub palette : t.palette < 2 ^ 8
  pub cms : t.cms < 2 ^ 8
  pub cmt : t.cmt < 2 ^ 8
  pub masks : t.masks < 2 ^ 8
  pub maskt : t.maskt < 2 ^ 8
  pub shifts : t.shifts < 2 ^ 8
  pub shiftt : t.shiftt < 2 ^ 8
  pub line : t.line < 2 ^ 16
  pub tmem : t.tmem_addr < 2 ^ 16

abbrev TilesFit : List Tile → Type 0
TilesFit [] = Unit {0}
TilesFit (t ∷ ts) = TileFits t × TilesFit ts

pub record BankFits (b : Bank) : Type 0 where
  pub eight : length b.tiles ≡ 8
  pub fits : TilesFit b.tiles

half : (x : ℕ) → x % 2 ^ 16 < 2 ^ 16
half x = omega arith

byte : (x : ℕ) → x % 2 ^ 8 < 2 ^ 8
byte x = omega arith

from_fits : (ws : List ℕ) → TileFits (tile_from ws)
unfolding tile_from
from_fits ws =
    record {
      uls = half _;
      ult = half _;
      lrs = half _;
      lrt = half _;
      width = half _;
      height = half _;
      fmt = byte _;
      siz = byte _;
      palette = byte _;
      cms = byte _;
      cmt = byte _;
      masks = byte _;
      maskt = byte _;
      shifts = byte _;
      shiftt = byte _;
      line = half _;
      tmem = half _;
    }

tiles_fit : (n : ℕ) (ws : List ℕ) → TilesFit (tiles_from n ws)
unfolding tiles_from
tiles_fit zero ws = tt
tiles_fit (suc n) ws = (from_fits ws, tiles_fit n (drop 17 ws))

tiles_from_lem : (n : ℕ) (ws : List ℕ) → length (tiles_from n ws) ≡ n
unfolding tiles_from
tiles_from_lem zero ws = refl
tiles_from_lem (suc n) ws = ap suc (tiles_from_lem n (drop 17 ws))

pub bank_fits : (ws : List ℕ) → BankFits (bank_from ws)
unfolding bank_from
bank_fits ws = record { eight = tiles_from_lem 8 ws; fits = tiles_fit 8 ws }

tile_back : (t : Tile) (ns : List ℕ) → TileFits t → tile_from (tile_numbers t ++ ns) ≡ t
unfolding tile_from tile_numbers
tile_back t ns h = λ i.
    record {
      uls = mod-eq_of_lt h.uls i;
      ult = mod-eq_of_lt h.ult i;
      lrs = mod-eq_of_lt h.lrs i;
      lrt = mod-eq_of_lt h.lrt i;
      width = mod-eq_of_lt h.width i;
      height = mod-eq_of_lt h.height i;
      fmt = mod-eq_of_lt h.fmt i;
      siz = mod-eq_of_lt h.siz i;
      palette = mod-eq_of_lt h.palette i;
      cms = mod-eq_of_lt h.cms i;
      cmt = mod-eq_of_lt h.cmt i;
      masks = mod-eq_of_lt h.masks i;
      maskt = mod-eq_of_lt h.maskt i;
      shifts = mod-eq_of_lt h.shifts i;
      shiftt = mod-eq_of_lt h.shiftt i;
      line = mod-eq_of_lt h.line i;
      tmem_addr = mod-eq_of_lt h.tmem i;
    }

rest_back : (t : Tile) (ns : List ℕ) → drop 17 (tile_numbers t ++ ns) ≡ ns
unfolding tile_numbers
rest_back t ns = refl

tiles_back : (ts : List Tile) → TilesFit ts → tiles_from (length ts) (tiles_numbers ts) ≡ ts
unfolding tiles_from tiles_numbers
tiles_back [] h = refl
tiles_back (t ∷ ts) h = rw (tile_back t _ h.0, rest_back t (tiles_numbers ts), tiles_back ts h.1)

pub bank_back : (b : Bank) → BankFits b → bank_from (bank_numbers b) ≡ b
unfolding bank_from bank_numbers
bank_back b h = let n = h.eight in ap (λ (ts : List Tile). record { tiles = ts }) (rw (← n) (tiles_back b.tiles h.fits))

-- ---- an entry that is narrow leaves such a bank

blank_fits : TileFits blank
blank_fits =
    record {
      uls = omega arith;
      ult = omega arith;
      lrs = omega arith;
      lrt = omega arith;
      width = omega arith;
      height = omega arith;
      fmt = omega arith;
      siz = omega arith;
      palette = omega arith;
      cms = omega arith;
      cmt = omega arith;
      masks = omega arith;
      maskt = omega arith;
      shifts = omega arith;
      shiftt = omega arith;
      line = omega arith;
      tmem = omega arith;
    }

tile_at : (ts : List Tile) (i : ℕ) → TilesFit ts → TileFits (get_or ts i blank)
tile_at [] i h = blank_fits
tile_at (t ∷ ts) zero h = h.0
tile_at (t ∷ ts) (suc i) h = tile_at ts i h.1

set_fits : (ts : List Tile) (i : ℕ) (t : Tile) → TilesFit ts → TileFits t → TilesFit (set ts i t)
set_fits [] i t h k = tt
set_fits (u ∷ ts) zero t h k = (k, h.1)
set_fits (u ∷ ts) (suc i) t h k = (h.0, set_fits ts i t h.1 k)

replaced_fits : (t u : Tile) → TileFits t → TileFits u → TileFits (replaced t u)
replaced_fits t u h k =
    record {
      uls = h.uls;
      ult = h.ult;
      lrs = h.lrs;
      lrt = h.lrt;
      width = h.width;
      height = h.height;
      fmt = k.fmt;
      siz = k.siz;
      palette = k.palette;
      cms = k.cms;
      cmt = k.cmt;
      masks = k.masks;
      maskt = k.maskt;
      shifts = k.shifts;
      shiftt = k.shiftt;
      line = k.line;
      tmem = k.tmem;
    }

extent_fits : (low high : ℕ) → high ≤ 65535 → extent low high < 2 ^ 16
extent_fits low high h = omega (arith, extent_is low high)

resized_fits : (t : Tile) (uls ult lrs lrt : ℕ) → TileFits t → uls ≤ 65535 → ult ≤ 65535 → lrs ≤ 65535 → lrt ≤ 65535 → TileFits (resized t uls ult lrs lrt)
resized_fits t uls ult lrs lrt h a b c d =
    record {
      uls = omega arith;
      ult = omega arith;
      lrs = omega arith;
      lrt = omega arith;
      width = extent_fits uls lrs c;
      height = extent_fits ult lrt d;
      fmt = h.fmt;
      siz = h.siz;
      palette = h.palette;
      cms = h.cms;
      cmt = h.cmt;
      masks = h.masks;
      maskt = h.maskt;
      shifts = h.shifts;
      shiftt = h.shiftt;
      line = h.line;
      tmem = h.tmem;
    }

set_bank : (b : Bank) (i : ℕ) (t : Tile) → BankFits b → TileFits t → BankFits (record { tiles = set b.tiles i t })
set_bank b i t h k = record { eight = length-set b.tiles i t ∙ h.eight; fits = set_fits b.tiles i t h.fits k }

step_fits : (b : Bank) (e : Entry) → BankFits b → Narrow e → BankFits (bank_step b e)
unfolding bank_step set_tile set_size
step_fits b (entry.Image fmt siz width address) h n = h
step_fits b (entry.Tile i fmt siz line tmem palette cms cmt masks maskt) h n =
    set_bank b i _ h (replaced_fits _ (descriptor fmt siz line tmem palette cms cmt masks maskt) (tile_at b.tiles i h.fits) (record {
      uls = omega arith;
      ult = omega arith;
      lrs = omega arith;
      lrt = omega arith;
      width = omega arith;
      height = omega arith;
      fmt = omega (arith, n.0);
      siz = omega (arith, n.1.0);
      palette = omega (arith, n.1.1.1.1.0);
      cms = omega (arith, n.1.1.1.1.1.0);
      cmt = omega (arith, n.1.1.1.1.1.1.0);
      masks = omega (arith, n.1.1.1.1.1.1.1.0);
      maskt = omega (arith, n.1.1.1.1.1.1.1.1);
      shifts = omega arith;
      shiftt = omega arith;
      line = omega (arith, n.1.1.0);
      tmem = omega (arith, n.1.1.1.0);
    }))
step_fits b (entry.Size i uls ult lrs lrt) h n = set_bank b i _ h (resized_fits _ uls ult lrs lrt (tile_at b.tiles i h.fits) n.0 n.1.0 n.1.1.0 n.1.1.1)
step_fits b (entry.Load i uls ult lrs lrt words rows stride start len) h n = set_bank b i _ h (resized_fits _ uls ult lrs lrt (tile_at b.tiles i h.fits) n.0 n.1.0 n.1.1.0 n.1.1.1)
step_fits b (entry.Rect i ulx uly lrx lry uls ult dsdx dtdy row) h n = h

pub after_fits : (es : List Entry) (b : Bank) → BankFits b → AllNarrow es → BankFits (bank_after b es)
unfolding bank_after
after_fits [] b h n = h
after_fits (e ∷ es) b h n = after_fits es (bank_step b e) (step_fits b e h n.0) n.1
