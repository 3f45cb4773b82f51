-- What a plan's entries leave in a bank's words is what the last entry of each kind leaves: set once at the end, the words are as if each entry had set them.
-- Assumes nothing.
use Rattle.std.specs.Prelude.{◌≡◌, refl, Bool, true, false, cond, ℕ, ◌+◌, ◌*◌, ◌/◌, ◌≤◌, ◌<◌, eqb, ltb, length, get_or}
use Rattle.std.proofs.Math.Path.{sym, ap}
use Rattle.std.proofs.Common.{◌∙◌, arith, length-append, get_or-append-add, ne_eqb}
use mathlib.Core.List.{List, [], ◌∷◌, ◌++◌, append_assoc}
use Rattle.tile.specs.Bank.{extent}
use Rattle.plan.specs.declared.types.Entry.{Entry}
use Rattle.plan.specs.declared.types.Entry.TheVariants as entry
use Rattle.plan.specs.Run.{entry_words, plan_words}
use Rattle.plan.specs.Sound.{EntryIn}
use Rattle.giving.specs.declared.giving.Places.{Places}
use Rattle.words.specs.Eleven.{eleven, eleven_each, words_append}
use Rattle.giving.specs.Host.{words_step, words_after}
use Rattle.giving.proofs.HostLaws.{after_more}
use Rattle.giving.specs.Over.{set_to}
use Rattle.giving.proofs.Over.{to_length, to_apart, to_over, in_sets}
use Rattle.giving.specs.Places.{no_places, placed_of, tile_settled, bounds_settled, settled_of, BoundsIn, PlacesIn}
use Rattle.giving.specs.Placed.{Sets, Describes, Bounds, Last, none, one, leave, Stands, LastIs, leave_all, Placed}

tile_sets : (i : ℕ) (e : Entry) → Describes i e → Sets i 6 11 e
unfolding words_step
tile_sets i (entry.Image fmt siz width address) h = absurd h
tile_sets i (entry.Tile j fmt siz line tmem palette cms cmt masks maskt) h =
    let ns = fmt ∷ siz ∷ palette ∷ cms ∷ cmt ∷ masks ∷ maskt ∷ 0 ∷ 0 ∷ line ∷ tmem ∷ [] in
    rw (← h) (record { xs = ns; long = refl; sets = λ ws. in_sets ws j 6 ns 11 refl (omega arith) })
tile_sets i (entry.Size j uls ult lrs lrt) h = absurd h
tile_sets i (entry.Load j uls ult lrs lrt words rows stride start len) h = absurd h
tile_sets i (entry.Rect j ulx uly lrx lry uls ult dsdx dtdy row) h = absurd h

bounds_sets : (i : ℕ) (e : Entry) → Bounds i e → Sets i 0 6 e
unfolding words_step
bounds_sets i (entry.Image fmt siz width address) h = absurd h
bounds_sets i (entry.Tile j fmt siz line tmem palette cms cmt masks maskt) h = absurd h
bounds_sets i (entry.Size j uls ult lrs lrt) h =
    let ns = uls ∷ ult ∷ lrs ∷ lrt ∷ extent uls lrs ∷ extent ult lrt ∷ [] in
    rw (← h.0) (record { xs = ns; long = refl; sets = λ ws. in_sets ws j 0 ns 6 refl (omega arith) })
bounds_sets i (entry.Load j uls ult lrs lrt words rows stride start len) h =
    let ns = uls ∷ ult ∷ lrs ∷ lrt ∷ extent uls lrs ∷ extent ult lrt ∷ [] in
    rw (← h.0) (record { xs = ns; long = refl; sets = λ ws. in_sets ws j 0 ns 6 refl (omega arith) })
bounds_sets i (entry.Rect j ulx uly lrx lry uls ult dsdx dtdy row) h = absurd h

-- two entries, one after the other
module _ {i k n j l m : ℕ} {e f : Entry} (s : Sets i k n e) (r : Sets j l m f) where
  twice : (ws : List ℕ) → words_step (words_step ws e) f ≡ set_to (ltb j (length ws / 17)) (set_to (ltb i (length ws / 17)) ws (i * 17 + k) s.xs) (j * 17 + l) r.xs
  twice ws =
      let same : length (words_step ws e) ≡ length ws = ap length (s.sets ws) ∙ to_length (ltb i (length ws / 17)) ws (i * 17 + k) s.xs in
      r.sets (words_step ws e)
      ∙ ap (λ (n : ℕ). set_to (ltb j (n / 17)) (words_step ws e) (j * 17 + l) r.xs) same
      ∙ ap (λ (vs : List ℕ). set_to (ltb j (length ws / 17)) vs (j * 17 + l) r.xs) (s.sets ws)

apart : {i k n j l m : ℕ} {e f : Entry} → Sets i k n e → Sets j l m f → i * 17 + k + n ≤ j * 17 + l → (ws : List ℕ) → words_step (words_step ws e) f ≡ words_step (words_step ws f) e
apart {i} {k} {n} {j} {l} s r h ws =
    let a = s.long in
    twice s r ws ∙ to_apart (ltb i (length ws / 17)) (ltb j (length ws / 17)) ws (i * 17 + k) s.xs (j * 17 + l) r.xs (omega arith) ∙ sym (twice r s ws)

over : {i k n : ℕ} {e f : Entry} → Sets i k n e → Sets i k n f → (ws : List ℕ) → words_step (words_step ws e) f ≡ words_step ws f
over {i} {k} s r ws = twice s r ws ∙ to_over (ltb i (length ws / 17)) ws (i * 17 + k) s.xs r.xs (s.long ∙ sym r.long) ∙ sym (r.sets ws)

last_more : (given : List Entry) (place : ℕ) (Is : Entry → Type 0) (x : Last) (e : Entry) → LastIs given place Is x → LastIs (given ++ e ∷ []) place Is x
last_more given place Is none e h = h
last_more given place Is (one f) e h =
    let s = h.0 in
    (record { before = s.before; after = s.after ++ e ∷ []; is = ap (λ (l : List Entry). l ++ e ∷ []) s.is ∙ append_assoc s.before (f ∷ s.after) (e ∷ []); at = s.at }, h.1)

new_last : (given : List Entry) (e : Entry) (at : ℕ) → at ≡ 11 * length given → Stands (given ++ e ∷ []) (at + 1) e
new_last given e at h = record { before = given; after = []; is = refl; at = omega arith }

-- another entry after it: over it, or apart from it
leave_over : {Is : Entry → Type 0} {i k n : ℕ} → ((e : Entry) → Is e → Sets i k n e) → (given : List Entry) (place : ℕ) (x : Last) → LastIs given place Is x → (e : Entry) → Sets i k n e → (ws : List ℕ) → words_step (leave ws x) e ≡ words_step ws e
unfolding leave
leave_over is given place none h e r ws = refl
leave_over is given place (one f) h e r ws = over (is f h.1) r ws

leave_apart : {Is : Entry → Type 0} (e : Entry) → ((f : Entry) → Is f → (ws : List ℕ) → words_step (words_step ws f) e ≡ words_step (words_step ws e) f) → (given : List Entry) (place : ℕ) (x : Last) → LastIs given place Is x → (ws : List ℕ) → words_step (leave ws x) e ≡ leave (words_step ws e) x
unfolding leave
leave_apart e c given place none h ws = refl
leave_apart e c given place (one f) h ws = c f h.1 ws

pub placed_start : Placed [] no_places
unfolding words_after leave
placed_start = record { t0 = none; t7 = none; b0 = none; b7 = none; tile0 = refl; tile7 = refl; bounds0 = refl; bounds7 = refl; bank = λ ws. refl }

module _ (given : List Entry) (p : Places) (h : Placed given p) (e : Entry) (ws : List ℕ) where
  -- past tile 7's bounds, and past both tiles' bounds
  past_b7 : ((f : Entry) → Bounds 7 f → (vs : List ℕ) → words_step (words_step vs f) e ≡ words_step (words_step vs e) f) → words_after ws (given ++ e ∷ []) ≡ leave (words_step (leave (leave (leave ws h.t0) h.t7) h.b0) e) h.b7
  past_b7 c = after_more given e ws ∙ ap (λ (vs : List ℕ). words_step vs e) (h.bank ws) ∙ leave_apart e c given p.bounds7 h.b7 h.bounds7 (leave (leave (leave ws h.t0) h.t7) h.b0)

  past_bounds : ((f : Entry) → Bounds 7 f → (vs : List ℕ) → words_step (words_step vs f) e ≡ words_step (words_step vs e) f) → ((f : Entry) → Bounds 0 f → (vs : List ℕ) → words_step (words_step vs f) e ≡ words_step (words_step vs e) f)
      → words_after ws (given ++ e ∷ []) ≡ leave (leave (words_step (leave (leave ws h.t0) h.t7) e) h.b0) h.b7
  past_bounds c d = past_b7 c ∙ ap (λ (vs : List ℕ). leave vs h.b7) (leave_apart e d given p.bounds0 h.b0 h.bounds0 (leave (leave ws h.t0) h.t7))

  tile0_left : Describes 0 e → words_after ws (given ++ e ∷ []) ≡ leave_all ws (one e) h.t7 h.b0 h.b7
  unfolding leave
  tile0_left k =
      let s = tile_sets 0 e k in
      past_bounds (λ f g vs. sym (apart s (bounds_sets 7 f g) (omega arith) vs)) (λ f g. apart (bounds_sets 0 f g) s (omega arith))
      ∙ ap (λ (vs : List ℕ). leave (leave vs h.b0) h.b7) (leave_apart e (λ f g vs. sym (apart s (tile_sets 7 f g) (omega arith) vs)) given p.tile7 h.t7 h.tile7 (leave ws h.t0))
      ∙ ap (λ (vs : List ℕ). leave (leave (leave vs h.t7) h.b0) h.b7) (leave_over (tile_sets 0) given p.tile0 h.t0 h.tile0 e s ws)

  tile7_left : Describes 7 e → words_after ws (given ++ e ∷ []) ≡ leave_all ws h.t0 (one e) h.b0 h.b7
  unfolding leave
  tile7_left k =
      let s = tile_sets 7 e k in
      past_bounds (λ f g. apart (bounds_sets 7 f g) s (omega arith)) (λ f g. apart (bounds_sets 0 f g) s (omega arith))
      ∙ ap (λ (vs : List ℕ). leave (leave vs h.b0) h.b7) (leave_over (tile_sets 7) given p.tile7 h.t7 h.tile7 e s (leave ws h.t0))

  bounds0_left : Bounds 0 e → words_after ws (given ++ e ∷ []) ≡ leave_all ws h.t0 h.t7 (one e) h.b7
  unfolding leave
  bounds0_left k =
      let s = bounds_sets 0 e k in
      past_b7 (λ f g vs. sym (apart s (bounds_sets 7 f g) (omega arith) vs))
      ∙ ap (λ (vs : List ℕ). leave vs h.b7) (leave_over (bounds_sets 0) given p.bounds0 h.b0 h.bounds0 e s (leave (leave ws h.t0) h.t7))

  bounds7_left : Bounds 7 e → words_after ws (given ++ e ∷ []) ≡ leave_all ws h.t0 h.t7 h.b0 (one e)
  unfolding leave
  bounds7_left k =
      let s = bounds_sets 7 e k in
      after_more given e ws
      ∙ ap (λ (vs : List ℕ). words_step vs e) (h.bank ws)
      ∙ leave_over (bounds_sets 7) given p.bounds7 h.b7 h.bounds7 e s (leave (leave (leave ws h.t0) h.t7) h.b0)

-- ---- one more entry

module _ (given : List Entry) (p : Places) (h : Placed given p) (at : ℕ) (here : at ≡ 11 * length given) where
  module _ (e : Entry) where
    still_t0 : LastIs (given ++ e ∷ []) p.tile0 (Describes 0) h.t0
    still_t0 = last_more given p.tile0 (Describes 0) h.t0 e h.tile0

    still_t7 : LastIs (given ++ e ∷ []) p.tile7 (Describes 7) h.t7
    still_t7 = last_more given p.tile7 (Describes 7) h.t7 e h.tile7

    still_b0 : LastIs (given ++ e ∷ []) p.bounds0 (Bounds 0) h.b0
    still_b0 = last_more given p.bounds0 (Bounds 0) h.b0 e h.bounds0

    still_b7 : LastIs (given ++ e ∷ []) p.bounds7 (Bounds 7) h.b7
    still_b7 = last_more given p.bounds7 (Bounds 7) h.b7 e h.bounds7

    -- an entry that sets nothing
    idle : ((ws : List ℕ) → words_step ws e ≡ ws) → Placed (given ++ e ∷ []) p
    idle same =
        record { t0 = h.t0; t7 = h.t7; b0 = h.b0; b7 = h.b7; tile0 = still_t0; tile7 = still_t7; bounds0 = still_b0; bounds7 = still_b7; bank = λ ws. after_more given e ws ∙ same (words_after ws given) ∙ h.bank ws }

    new_tile : (t : Bool) → Describes (cond t 7 0) e → Placed (given ++ e ∷ []) (record { tile0 = cond t p.tile0 (at + 1); tile7 = cond t (at + 1) p.tile7; bounds0 = p.bounds0; bounds7 = p.bounds7 })
    new_tile true k =
        record { t0 = h.t0; t7 = one e; b0 = h.b0; b7 = h.b7; tile0 = still_t0; tile7 = (new_last given e at here, k); bounds0 = still_b0; bounds7 = still_b7; bank = λ ws. tile7_left given p h e ws k }
    new_tile false k =
        record { t0 = one e; t7 = h.t7; b0 = h.b0; b7 = h.b7; tile0 = (new_last given e at here, k); tile7 = still_t7; bounds0 = still_b0; bounds7 = still_b7; bank = λ ws. tile0_left given p h e ws k }

    new_bounds0 : Bounds 0 e → Placed (given ++ e ∷ []) (record { tile0 = p.tile0; tile7 = p.tile7; bounds0 = at + 1; bounds7 = p.bounds7 })
    new_bounds0 k =
        record { t0 = h.t0; t7 = h.t7; b0 = one e; b7 = h.b7; tile0 = still_t0; tile7 = still_t7; bounds0 = (new_last given e at here, k); bounds7 = still_b7; bank = λ ws. bounds0_left given p h e ws k }

    new_bounds7 : Bounds 7 e → Placed (given ++ e ∷ []) (record { tile0 = p.tile0; tile7 = p.tile7; bounds0 = p.bounds0; bounds7 = at + 1 })
    new_bounds7 k =
        record { t0 = h.t0; t7 = h.t7; b0 = h.b0; b7 = one e; tile0 = still_t0; tile7 = still_t7; bounds0 = still_b0; bounds7 = (new_last given e at here, k); bank = λ ws. bounds7_left given p h e ws k }

  pub placed_more : (e : Entry) → EntryIn e → Placed (given ++ e ∷ []) (placed_of p at e)
  unfolding placed_of words_step
  placed_more (entry.Image fmt siz width address) i = idle (entry.Image fmt siz width address) (λ ws. refl)
  placed_more (entry.Tile j fmt siz line tmem palette cms cmt masks maskt) i = new_tile (entry.Tile j fmt siz line tmem palette cms cmt masks maskt) (eqb j 7) i.names
  placed_more (entry.Size j uls ult lrs lrt) i = new_bounds0 (entry.Size j uls ult lrs lrt) (i.names, i.narrow)
  placed_more (entry.Load j uls ult lrs lrt words rows stride start len) i = new_bounds7 (entry.Load j uls ult lrs lrt words rows stride start len) (i.names, i.narrow)
  placed_more (entry.Rect j ulx uly lrx lry uls ult dsdx dtdy row) i = idle (entry.Rect j ulx uly lrx lry uls ult dsdx dtdy row) (λ ws. refl)

-- ---- the entries at the places, read from the plan's words

module _ (given : List Entry) (out rest : List ℕ) (written : out ≡ plan_words given ++ rest) (place : ℕ) where
  module _ (e : Entry) (s : Stands given place e) where
    split : out ≡ plan_words s.before ++ (entry_words e ++ plan_words s.after ++ rest)
    unfolding plan_words
    split =
        written
        ∙ ap (λ (l : List ℕ). l ++ rest) (ap plan_words s.is ∙ words_append s.before (e ∷ s.after))
        ∙ append_assoc (plan_words s.before) (entry_words e ++ plan_words s.after) rest

    word : (k : ℕ) → get_or out (place + k) 0 ≡ get_or (entry_words e ++ plan_words s.after ++ rest) (k + 1) 0
    word k =
        let a : place + k ≡ length (plan_words s.before) + (k + 1) = omega (arith, s.at, eleven_each s.before) in
        ap (λ (n : ℕ). get_or out n 0) a
        ∙ ap (λ (l : List ℕ). get_or l (length (plan_words s.before) + (k + 1)) 0) split
        ∙ get_or-append-add (plan_words s.before) (entry_words e ++ plan_words s.after ++ rest) (k + 1) 0

    inside : place + 9 < length out
    inside =
        let l = ap length split ∙ length-append (plan_words s.before) (entry_words e ++ plan_words s.after ++ rest) in
        let m = length-append (entry_words e ++ plan_words s.after) rest in
        let n = length-append (entry_words e) (plan_words s.after) in
        omega (arith, s.at, eleven_each s.before, eleven e)

  tile_read : (i : ℕ) (x : Last) → LastIs given place (Describes i) x → (ws : List ℕ) → tile_settled ws i out place ≡ leave ws x
  unfolding leave words_step entry_words
  tile_read i none h ws = rw h
  tile_read i (one (entry.Image fmt siz width address)) h ws = absurd h.1
  tile_read i (one (entry.Tile j fmt siz line tmem palette cms cmt masks maskt)) h ws =
      let e = entry.Tile j fmt siz line tmem palette cms cmt masks maskt in
      let s = h.0 in
      rw (ne_eqb place 0 (λ z. omega (arith, s.at)), word e s 1, word e s 2, word e s 3, word e s 4, word e s 5, word e s 6, word e s 7, word e s 8, word e s 9, h.1)
  tile_read i (one (entry.Size j uls ult lrs lrt)) h ws = absurd h.1
  tile_read i (one (entry.Load j uls ult lrs lrt words rows stride start len)) h ws = absurd h.1
  tile_read i (one (entry.Rect j ulx uly lrx lry uls ult dsdx dtdy row)) h ws = absurd h.1

  bounds_read : (i : ℕ) (x : Last) → LastIs given place (Bounds i) x → (ws : List ℕ) → bounds_settled ws i out place ≡ leave ws x
  unfolding leave words_step entry_words
  bounds_read i none h ws = rw h
  bounds_read i (one (entry.Image fmt siz width address)) h ws = absurd h.1
  bounds_read i (one (entry.Tile j fmt siz line tmem palette cms cmt masks maskt)) h ws = absurd h.1
  bounds_read i (one (entry.Size j uls ult lrs lrt)) h ws =
      let e = entry.Size j uls ult lrs lrt in
      let s = h.0 in
      rw (ne_eqb place 0 (λ z. omega (arith, s.at)), word e s 1, word e s 2, word e s 3, word e s 4, h.1.0)
  bounds_read i (one (entry.Load j uls ult lrs lrt words rows stride start len)) h ws =
      let e = entry.Load j uls ult lrs lrt words rows stride start len in
      let s = h.0 in
      rw (ne_eqb place 0 (λ z. omega (arith, s.at)), word e s 1, word e s 2, word e s 3, word e s 4, h.1.0)
  bounds_read i (one (entry.Rect j ulx uly lrx lry uls ult dsdx dtdy row)) h ws = absurd h.1

  tile_in : (i : ℕ) (x : Last) → LastIs given place (Describes i) x → 1 ≤ place → place + 9 < length out
  tile_in i none h l = absurd (omega arith)
  tile_in i (one e) h l = inside e h.0

  bounds_in : (i : ℕ) (x : Last) → LastIs given place (Bounds i) x → 1 ≤ place → BoundsIn out place
  unfolding entry_words
  bounds_in i none h l = absurd (omega arith)
  bounds_in i (one (entry.Image fmt siz width address)) h l = absurd h.1
  bounds_in i (one (entry.Tile j fmt siz line tmem palette cms cmt masks maskt)) h l = absurd h.1
  bounds_in i (one (entry.Size j uls ult lrs lrt)) h l =
      let e = entry.Size j uls ult lrs lrt in
      let s = h.0 in
      let n = h.1.1 in
      record { fits = inside e s; uls = rw (word e s 1) n.0; ult = rw (word e s 2) n.1.0; lrs = rw (word e s 3) n.1.1.0; lrt = rw (word e s 4) n.1.1.1 }
  bounds_in i (one (entry.Load j uls ult lrs lrt words rows stride start len)) h l =
      let e = entry.Load j uls ult lrs lrt words rows stride start len in
      let s = h.0 in
      let n = h.1.1 in
      record { fits = inside e s; uls = rw (word e s 1) n.0; ult = rw (word e s 2) n.1.0; lrs = rw (word e s 3) n.1.1.0; lrt = rw (word e s 4) n.1.1.1 }
  bounds_in i (one (entry.Rect j ulx uly lrx lry uls ult dsdx dtdy row)) h l = absurd h.1

module _ (given : List Entry) (p : Places) (h : Placed given p) (out rest : List ℕ) (written : out ≡ plan_words given ++ rest) where
  pub places_in : PlacesIn out p
  places_in =
      record {
        tile0 = tile_in given out rest written p.tile0 0 h.t0 h.tile0;
        tile7 = tile_in given out rest written p.tile7 7 h.t7 h.tile7;
        bounds0 = bounds_in given out rest written p.bounds0 0 h.b0 h.bounds0;
        bounds7 = bounds_in given out rest written p.bounds7 7 h.b7 h.bounds7;
      }

  -- set once, the bank's words are as all entries leave them
  pub settled_is : (ws : List ℕ) → settled_of ws out p ≡ words_after ws given
  unfolding settled_of
  settled_is ws =
      bounds_read given out rest written p.bounds7 7 h.b7 h.bounds7 _
      ∙ ap (λ (vs : List ℕ). leave vs h.b7) (bounds_read given out rest written p.bounds0 0 h.b0 h.bounds0 _)
      ∙ ap (λ (vs : List ℕ). leave (leave vs h.b0) h.b7) (tile_read given out rest written p.tile7 7 h.t7 h.tile7 _)
      ∙ ap (λ (vs : List ℕ). leave (leave (leave vs h.t7) h.b0) h.b7) (tile_read given out rest written p.tile0 0 h.t0 h.tile0 ws)
      ∙ sym (h.bank ws)
