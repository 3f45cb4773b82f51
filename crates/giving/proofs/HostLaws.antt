-- The words of a run, on the numbers of a bank: each entry sets what it sets of the bank, and the run is that of D 10.4. D is docs/SPECIFICATION.md.
-- Assumes nothing.
use Rattle.std.specs.Prelude.{◌≡◌, Bool, take, drop, get_or, set}
use Rattle.std.proofs.Math.Path.{refl, ap}
use Rattle.std.proofs.Common.{sym, ◌∙◌, length-append, length-set}
use Rattle.std.proofs.Math.Bool.{true, false, cond}
use mathlib.Core.List.{List, [], ◌∷◌, ◌++◌, append_assoc}
use Prim.Native.Nat.{ℕ, zero, suc, ◌+◌, ◌*◌, ◌/◌, ◌<◌}
use native.Mathlib.Omega.{arith}
use Rattle.std.proofs.Math.Dec.{ltb}
use Rattle.std.proofs.Math.ListN.{length}
use Rattle.std.proofs.Math.Seq.{paste, take-append-add, drop-append-add, set_out}
use borrow.Author.Tests.{le-ltb, ltb-true, ltb-false}
use Rattle.tile.specs.declared.bank.Tile.{Tile}
use Rattle.tile.specs.declared.bank.Bank.{Bank}
use Rattle.tile.specs.Bank.{blank, replaced, resized, extent, set_tile, set_size}
use Rattle.plan.specs.declared.types.Entry.{Entry}
use Rattle.plan.specs.declared.types.Entry.TheVariants as entry
use Rattle.plan.specs.Check.{tile_numbers, tiles_numbers}
use Rattle.plan.specs.Out.{Plan}
use Rattle.plan.specs.Run.{descriptor, bank_step, bank_after, bank_of, plan_words, cut_at, run_of}
use Rattle.giving.specs.Host.{bank_numbers, set_in, words_step, words_after, run_words}

pub after_append : (es fs : List Entry) (ws : List ℕ) → words_after ws (es ++ fs) ≡ words_after (words_after ws es) fs
unfolding words_after
after_append [] fs ws = refl
after_append (e ∷ es) fs ws = after_append es fs (words_step ws e)

pub after_more : (es : List Entry) (e : Entry) (ws : List ℕ) → words_after ws (es ++ e ∷ []) ≡ words_step (words_after ws es) e
unfolding words_after
after_more es e ws = after_append es (e ∷ []) ws

-- a plan without entries leaves all words as they are, in the bank too, whether they are a bank's or not
pub nothing_written : (p : Plan) → p.entries ≡ [] → p.left ≡ [] → (buf ws : List ℕ) → ((run_words p buf ws).buffer ≡ buf) × ((run_words p buf ws).bank ≡ ws)
unfolding run_words cut_at plan_words words_after
nothing_written p e l buf ws =
    let few = ap length e in
    let uncut : cut_at (length buf) p ≡ p = rw (le-ltb (length buf / 11) (length p.entries) (omega arith)) in
    (ap (λ (q : Plan). plan_words q.entries ++ drop (11 * length q.entries) buf) uncut ∙ ap (λ (es : List Entry). plan_words es ++ drop (11 * length es) buf) e, ap (λ (q : Plan). words_after ws (q.entries ++ q.left)) uncut ∙ rw (e, l))

-- ---- on the numbers of a bank, this is the run of D 10.4

pub seventeen : (t : Tile) → length (tile_numbers t) ≡ 17
unfolding tile_numbers
seventeen t = refl

pub each_seventeen : (ts : List Tile) → length (tiles_numbers ts) ≡ length ts * 17
unfolding tiles_numbers
each_seventeen [] = refl
each_seventeen (t ∷ ts) = length-append (tile_numbers t) (tiles_numbers ts) ∙ omega (arith, seventeen t, each_seventeen ts)

-- what is pasted past a list's end stays clear of it
paste_past : (ys zs : List ℕ) (j : ℕ) (xs : List ℕ) (n : ℕ) → paste (ys ++ zs) (length ys + j) xs n ≡ ys ++ paste zs j xs n
paste_past ys zs j xs n =
    let a : length ys + j + n ≡ length ys + (j + n) = omega arith in
    ap (λ (l : List ℕ). l ++ take n xs ++ drop (length ys + j + n) (ys ++ zs)) (take-append-add ys zs j)
    ∙ ap (λ (m : ℕ). (ys ++ take j zs) ++ take n xs ++ drop m (ys ++ zs)) a
    ∙ ap (λ (l : List ℕ). (ys ++ take j zs) ++ take n xs ++ l) (drop-append-add ys zs (j + n))
    ∙ ap (λ (l : List ℕ). l ++ drop (j + n) zs) (append_assoc ys (take j zs) (take n xs))
    ∙ append_assoc ys (take j zs ++ take n xs) (drop (j + n) zs)

-- words set in a tile's numbers, whatever stands after them, are those of another tile
module _ (k : ℕ) (xs : List ℕ) (n : ℕ) (f : Tile → Tile) (one : (t : Tile) (ns : List ℕ) → paste (tile_numbers t ++ ns) k xs n ≡ tile_numbers (f t) ++ ns) where
  tiles_set : (ts : List Tile) (i : ℕ) → i < length ts → paste (tiles_numbers ts) (i * 17 + k) xs n ≡ tiles_numbers (set ts i (f (get_or ts i blank)))
  unfolding tiles_numbers
  tiles_set [] i h = absurd (omega arith)
  tiles_set (t ∷ ts) zero h = let a : 0 * 17 + k ≡ k = omega arith in ap (λ (m : ℕ). paste (tile_numbers t ++ tiles_numbers ts) m xs n) a ∙ one t (tiles_numbers ts)
  tiles_set (t ∷ ts) (suc i) h =
      let a : suc i * 17 + k ≡ length (tile_numbers t) + (i * 17 + k) = omega (arith, seventeen t) in
      ap (λ (m : ℕ). paste (tile_numbers t ++ tiles_numbers ts) m xs n) a
      ∙ paste_past (tile_numbers t) (tiles_numbers ts) (i * 17 + k) xs n
      ∙ ap (λ (l : List ℕ). tile_numbers t ++ l) (tiles_set ts i (omega arith))

  bank_set : (b : Bank) → length b.tiles ≡ 8 → (i : ℕ) → set_in (bank_numbers b) i k xs n ≡ bank_numbers (record { tiles = set b.tiles i (f (get_or b.tiles i blank)) })
  unfolding bank_numbers
  bank_set b m i = by (ltb i (length (tiles_numbers b.tiles) / 17)) refl
    where
      by : (t : Bool) → ltb i (length (tiles_numbers b.tiles) / 17) ≡ t → cond t (paste (tiles_numbers b.tiles) (i * 17 + k) xs n) (tiles_numbers b.tiles) ≡ tiles_numbers (set b.tiles i (f (get_or b.tiles i blank)))
      by true h = let l = ltb-true i (length (tiles_numbers b.tiles) / 17) h in tiles_set b.tiles i (omega (arith, each_seventeen b.tiles))
      by false h = let l = ltb-false i (length (tiles_numbers b.tiles) / 17) h in ap tiles_numbers (sym (set_out b.tiles i _ (omega (arith, each_seventeen b.tiles))))

-- an entry sets in a bank's numbers what it sets in the bank
pub words_step_lem : (b : Bank) → length b.tiles ≡ 8 → (e : Entry) → words_step (bank_numbers b) e ≡ bank_numbers (bank_step b e)
unfolding words_step bank_step set_tile set_size tile_numbers
words_step_lem b n (entry.Image fmt siz width address) = refl
words_step_lem b n (entry.Tile i fmt siz line tmem palette cms cmt masks maskt) = bank_set 6 (fmt ∷ siz ∷ palette ∷ cms ∷ cmt ∷ masks ∷ maskt ∷ 0 ∷ 0 ∷ line ∷ tmem ∷ []) 11 (λ t. replaced t (descriptor fmt siz line tmem palette cms cmt masks maskt)) (λ t ns. refl) b n i
words_step_lem b n (entry.Size i uls ult lrs lrt) = bank_set 0 (uls ∷ ult ∷ lrs ∷ lrt ∷ extent uls lrs ∷ extent ult lrt ∷ []) 6 (λ t. resized t uls ult lrs lrt) (λ t ns. refl) b n i
words_step_lem b n (entry.Load i uls ult lrs lrt words rows stride start len) = bank_set 0 (uls ∷ ult ∷ lrs ∷ lrt ∷ extent uls lrs ∷ extent ult lrt ∷ []) 6 (λ t. resized t uls ult lrs lrt) (λ t ns. refl) b n i
words_step_lem b n (entry.Rect i ulx uly lrx lry uls ult dsdx dtdy row) = refl

-- the bank keeps its number of tiles
pub eight_still : (b : Bank) (e : Entry) → length (bank_step b e).tiles ≡ length b.tiles
unfolding bank_step set_tile set_size
eight_still b (entry.Image fmt siz width address) = refl
eight_still b (entry.Tile i fmt siz line tmem palette cms cmt masks maskt) = length-set b.tiles i _
eight_still b (entry.Size i uls ult lrs lrt) = length-set b.tiles i _
eight_still b (entry.Load i uls ult lrs lrt words rows stride start len) = length-set b.tiles i _
eight_still b (entry.Rect i ulx uly lrx lry uls ult dsdx dtdy row) = refl

pub words_after_lem : (es : List Entry) (b : Bank) → length b.tiles ≡ 8 → words_after (bank_numbers b) es ≡ bank_numbers (bank_after b es)
unfolding words_after bank_after
words_after_lem [] b n = refl
words_after_lem (e ∷ es) b n = ap (λ (ws : List ℕ). words_after ws es) (words_step_lem b n e) ∙ words_after_lem es (bank_step b e) (eight_still b e ∙ n)

-- a run's end and buffer do not depend on the bank
pub run_end : (p : Plan) (buf ws : List ℕ) (b : Bank) → (run_words p buf ws).end ≡ (run_of p buf b).end
unfolding run_words run_of
run_end p buf ws b = refl

pub run_buffer : (p : Plan) (buf ws : List ℕ) (b : Bank) → (run_words p buf ws).buffer ≡ (run_of p buf b).buffer
unfolding run_words run_of
run_buffer p buf ws b = refl

-- and over the numbers of a bank it leaves the numbers of the bank that D's run leaves
pub run_bank : (p : Plan) (buf : List ℕ) (b : Bank) → length b.tiles ≡ 8 → (run_words p buf (bank_numbers b)).bank ≡ bank_numbers (run_of p buf b).bank
unfolding run_words run_of bank_of
run_bank p buf b n = words_after_lem ((cut_at (length buf) p).entries ++ (cut_at (length buf) p).left) b n
