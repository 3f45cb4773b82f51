-- A record of 61 bytes with the oracle's answer and D's figures, and the test that the definitions give both. D is docs/SPECIFICATION.md, sections 12 and 13.
-- Assumes nothing.
use Rattle.std.specs.Prelude.{Bool, true, false, ◌&&◌, ◌||◌, List, [], ◌∷◌, ◌++◌, ℕ, zero, suc, ◌/◌, ◌%◌, eqb, length, take, drop, get_or, replicate, pos, neg_ℤ, ℤ}
use Rattle.std.specs.Int.Signed.{le_z}
use Rattle.object.specs.Layout.{layout, read, value_of, decode}
use Rattle.checks.specs.Check.{verdict_number, scissor_bad, object_faults, copy_faults, object_of, checked_of}
use Rattle.tile.specs.declared.bank.Tile.{Tile}
use Rattle.tile.specs.Bank.{extent, set_tile, set_size}
use Rattle.load_tile.specs.Load.{request_of}
use Rattle.plan.specs.declared.types.End.{End}
use Rattle.plan.specs.Request.{Request}
use Rattle.plan.specs.Load.{load_out, load_tile, source_address}
use Rattle.plan.specs.Copy.{copy_of, strip_of, strip_entries, strip, columns, rows, copy_plan}
use Rattle.plan.specs.Scaled.{clip_of, start_of, scaled_of, first_of, load_part, load_1cyc_tile, from_top, split_row, up_to_end, advance, load_1cyc, draw_pass, idle_pass, pass, passes, scaled_plan}
use Rattle.plan.specs.Whole.{copy_out, scaled_out, checked_out, plan_with, plan_of}
use Rattle.plan.specs.Run.{Ran, bank_step, bank_after, bank_of, rectangles, words_from, entry_words, plan_words, end_of, cut_at, run_of}
use Rattle.plan.specs.Demand.{drift_of, strips, strips_of, lines_in, Begun, aheads, apt, all_near}

-- the n bytes of a number, the highest first, in front of others
unfoldable pub digits : ℕ → ℕ → List ℕ → List ℕ
digits zero x rest = rest
digits (suc n) x rest = digits n (x / 256) (x % 256 ∷ rest)

-- D "Program `bgplan` reads 61 bytes": object, scissor, render mode, opcode, address; the planner gets the object's first n bytes
unfoldable pub request_at : ℕ → List ℕ → Request
unfolding read
request_at n bs =
    record {
      bytes = take n bs;
      opcode = read bs 52 1;
      scissor = record { ulx = pos (read bs 40 2); uly = pos (read bs 42 2); lrx = pos (read bs 44 2); lry = pos (read bs 46 2) };
      mode = read bs 48 4;
      address = read bs 53 8;
    }

-- a tile's seventeen numbers, in the oracle's order
unfoldable pub tile_numbers : Tile → List ℕ
tile_numbers t =
    t.uls ∷ t.ult ∷ t.lrs ∷ t.lrt ∷ t.width ∷ t.height ∷ t.fmt ∷ t.siz ∷ t.palette ∷ t.cms ∷ t.cmt ∷ t.masks ∷ t.maskt ∷ t.shifts ∷ t.shiftt ∷ t.line ∷ t.tmem_addr ∷ []

unfoldable pub tiles_numbers : List Tile → List ℕ
unfolding tile_numbers
tiles_numbers [] = []
tiles_numbers (t ∷ ts) = tile_numbers t ++ tiles_numbers ts

unfoldable pub tile_from : List ℕ → Tile
tile_from ns =
    let at : ℕ → ℕ = λ k. get_or ns k 0 in
    record { uls = at 0; ult = at 1; lrs = at 2; lrt = at 3; width = at 4; height = at 5; fmt = at 6; siz = at 7; palette = at 8; cms = at 9; cmt = at 10; masks = at 11; maskt = at 12; shifts = at 13; shiftt = at 14; line = at 15; tmem_addr = at 16 }

unfoldable pub tiles_from : ℕ → List ℕ → List Tile
unfolding tile_from
tiles_from zero ns = []
tiles_from (suc n) ns = tile_from ns ∷ tiles_from n (drop 17 ns)

-- what D 13.3 and D 13.4 say of a case
pub data Figure : Type 0 where
  answers : (verdict : ℕ) → Figure
  entries : ℕ → Figure
  rects : ℕ → Figure
  words : ℕ → Figure
  lines : ℕ → Figure
  -- "line 6 begins strip 1, 144/1,024 ahead"
  begins : (line strip ahead : ℕ) → Figure
  -- "line 6 begins strip 1, 368/1,024 behind"
  lags : (line strip behind : ℕ) → Figure
  -- demand 3's conditions hold, and each rectangle begins within its limits
  drifts : Figure

-- an end by its numbers
pub record Ends : Type 0 where
  pub verdict : ℕ
  pub entries : ℕ
  pub rectangles : ℕ
  pub words : ℕ

abbrev pub ends : ℕ → ℕ → ℕ → ℕ → Ends
ends v e r w = record { verdict = v; entries = e; rectangles = r; words = w }

-- a record; how many bytes of the object and words of buffer the planner gets; then the oracle's end, buffer (sevens where nothing is written) and bank; and what D says of it
pub record Given : Type 0 where
  pub bytes : ℕ
  pub count : ℕ
  pub room : ℕ
  pub end : Ends
  pub buffer : List ℕ
  pub bank : List ℕ
  pub said : List Figure

abbrev pub saying : List Figure → ℕ → ℕ → ℕ → Ends → List ℕ → List ℕ → Given
saying s x n m e w b = record { bytes = x; count = n; room = m; end = e; buffer = w; bank = b; said = s }

abbrev pub given : ℕ → ℕ → ℕ → Ends → List ℕ → List ℕ → Given
given x n m e w b = saying [] x n m e w b

abbrev pub same_end : End → Ends → Bool
same_end a b = eqb (verdict_number a.verdict) b.verdict && (eqb a.entries b.entries && (eqb a.rectangles b.rectangles && eqb a.words b.words))

unfoldable pub same : List ℕ → List ℕ → Bool
same [] [] = true
same [] (y ∷ ys) = false
same (x ∷ xs) [] = false
same (x ∷ xs) (y ∷ ys) = eqb x y && same xs ys

-- a record's request; to unfold this is to unfold all that it takes to compute its plan
unfoldable pub request_of_record : Given → Request
unfolding digits request_at plan_of plan_with checked_out scaled_out copy_out checked_of object_of copy_faults object_faults scissor_bad scaled_plan passes pass idle_pass draw_pass load_1cyc advance up_to_end split_row from_top load_1cyc_tile load_part first_of scaled_of start_of clip_of copy_plan rows columns strip strip_entries strip_of copy_of source_address load_tile load_out request_of decode value_of layout read
request_of_record g = request_at g.count (digits 61 g.bytes [])

-- the run of a record from a bank, over a buffer of sevens
unfoldable pub ran_of : List ℕ → Given → Ran
unfolding request_of_record tiles_from run_of cut_at end_of bank_of bank_after bank_step set_tile set_size extent rectangles words_from plan_words entry_words
ran_of bank g = run_of (plan_of (request_of_record g)) (replicate g.room 7) (record { tiles = tiles_from 8 bank })

-- a rectangle begins so
unfoldable pub begun : (line strip : ℕ) → (distance : ℤ) → List Begun → Bool
begun l k x [] = false
begun l k x (b ∷ bs) =
    (eqb l b.line && (le_z (pos k) b.strip && (le_z b.strip (pos k) && (le_z x b.distance && le_z b.distance x)))) || begun l k x bs

-- where the rectangles of a record's plan begin
unfoldable pub begun_of : Given → List Begun
unfolding request_of_record drift_of strips aheads
begun_of g = let q = request_of_record g in aheads (drift_of q) 0 (strips_of (drift_of q)) (plan_of q).entries

-- what D says holds of a record's plan and end
unfoldable pub holds : Given → End → Figure → Bool
unfolding request_of_record drift_of lines_in begun_of apt all_near begun
holds g e (answers n) = eqb (verdict_number e.verdict) n
holds g e (entries n) = eqb e.entries n
holds g e (rects n) = eqb e.rectangles n
holds g e (words n) = eqb e.words n
holds g e (lines n) = eqb (lines_in (plan_of (request_of_record g)).entries) n
holds g e (begins l k a) = begun l k (pos a) (begun_of g)
holds g e (lags l k b) = begun l k (neg_ℤ (pos b)) (begun_of g)
holds g e drifts =
    let q = request_of_record g in
    let bs = begun_of g in
    apt q && (eqb (length bs) e.rectangles && all_near (drift_of q) bs)

unfoldable pub all_hold : Given → End → List Figure → Bool
unfolding holds
all_hold g e [] = true
all_hold g e (f ∷ fs) = holds g e f && all_hold g e fs

-- the run has this end, buffer and bank, and what is said of it holds
unfoldable pub agree : Given → Ran → Bool
unfolding same tiles_numbers all_hold
agree g r = same_end r.end g.end && (same r.buffer g.buffer && (same (tiles_numbers r.bank.tiles) g.bank && all_hold g r.end g.said))

unfoldable pub all_agree : List ℕ → List Given → Bool
unfolding agree ran_of
all_agree bank [] = true
all_agree bank (g ∷ gs) = agree g (ran_of bank g) && all_agree bank gs
