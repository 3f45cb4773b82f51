-- Every load of a plan stands after a setting of tile 7. So tile words, which count from a line of 0, are those of the bank as it stands at each load, whatever bank a plan starts on. D is docs/SPECIFICATION.md, section 10.
-- Assumes nothing.
use Rattle.std.specs.Prelude.{◌≡◌, refl, Bool, true, false, cond, ◌||◌, List, [], ◌∷◌, ◌++◌, ℕ, zero, suc, ◌+◌, ◌*◌, ◌%◌, ◌^◌, max, ltb, eqb, ℤ, pos, ◌+ℤ◌, length, get_or, set, Ok, Err}
use Rattle.std.proofs.Common.{sym, ap, subst, ◌∙◌, true≢false, arith, get_or-set_same, get_or-set_other, eqb-true}
use Rattle.std.specs.Int.Signed.{lt_z}
use Rattle.std.proofs.lemmas.Bool.{eqb-false}
use Rattle.signed.specs.Diff.{up}
use Rattle.checks.specs.Check.{Checked}
use Rattle.object.specs.declared.types.Background.TheVariants as background
use Rattle.checks.specs.Check.{checked_of}
use Rattle.measures.specs.Measure.{quarters, texels}
use Rattle.object.specs.declared.types.Verdict.TheVariants as verdict
use Rattle.tile.specs.declared.bank.Tile.{Tile}
use Rattle.tile.specs.declared.bank.Bank.{Bank}
use Rattle.tile.specs.Bank.{blank, set_tile, set_size}
use Rattle.plan.specs.declared.types.Entry.{Entry}
use Rattle.plan.specs.declared.types.Entry.TheVariants as entry
use Rattle.plan.specs.declared.types.Copy.{Copy}
use Rattle.plan.specs.declared.types.Strip.{Strip}
use Rattle.plan.specs.declared.types.Scaled.{Scaled}
use Rattle.plan.specs.declared.types.Clip.{Clip}
use Rattle.plan.specs.declared.types.First.{First}
use Rattle.plan.specs.Request.{Request}
use Rattle.plan.specs.Out.{Out, more, ◌>>=◌, yield, refuse, plan_out}
use Rattle.plan.specs.Out.Out.{go, stop}
use Rattle.plan.specs.Load.{source_address}
use Rattle.plan.specs.Copy.{field, strip_entries, strip, strip_of, columns, rows, strip_row_of, strip_height_of, copy_empty, copy_of, copy_plan}
use Rattle.plan.specs.Scaled.{size_of, first_pass, passes, clip_of, scaled_empty, start_of, scaled_of, slices_bad, first_of, scaled_plan}
use Rattle.plan.specs.Whole.{copy_out, scaled_out, checked_out, plan_with, plan_of}
use Rattle.plan.specs.Run.{bank_step, words_from, tile_words}
use Rattle.plan.specs.Laws.{entries_out, columns_on, columns_end, rows_on, rows_end}
use Rattle.giving.proofs.HostLaws.{eight_still}
use Rattle.demands.specs.Loads.{LoadsAfter, words_in}

-- ---- a plan begins to set with tile 7

after_set : (es : List Entry) → LoadsAfter true es
after_set [] = tt
after_set (entry.Image fmt siz width address ∷ es) = after_set es
after_set (entry.Tile i fmt siz line tmem palette cms cmt masks maskt ∷ es) = by (eqb i 7) (after_set es)
  where
    by : (t : Bool) → LoadsAfter true es → LoadsAfter (t || true) es
    by true h = h
    by false h = h
after_set (entry.Size i uls ult lrs lrt ∷ es) = after_set es
after_set (entry.Load i uls ult lrs lrt words rows stride start len ∷ es) = (refl, after_set es)
after_set (entry.Rect i ulx uly lrx lry uls ult dsdx dtdy row ∷ es) = after_set es

-- tile 7 is set first, if there is an entry; and with at least one entry
abbrev Begins : List Entry → Type 0
Begins [] = Unit {0}
Begins (entry.Image fmt siz width address ∷ es) = ⊥
Begins (entry.Tile i fmt siz line tmem palette cms cmt masks maskt ∷ es) = i ≡ 7
Begins (entry.Size i uls ult lrs lrt ∷ es) = ⊥
Begins (entry.Load i uls ult lrs lrt words rows stride start len ∷ es) = ⊥
Begins (entry.Rect i ulx uly lrx lry uls ult dsdx dtdy row ∷ es) = ⊥

begun : (es : List Entry) → Begins es → LoadsAfter false es
begun [] h = tt
begun (entry.Image fmt siz width address ∷ es) h = absurd h
begun (entry.Tile i fmt siz line tmem palette cms cmt masks maskt ∷ es) h = subst (λ (k : ℕ). LoadsAfter (eqb k 7 || false) es) (sym h) (after_set es)
begun (entry.Size i uls ult lrs lrt ∷ es) h = absurd h
begun (entry.Load i uls ult lrs lrt words rows stride start len ∷ es) h = absurd h
begun (entry.Rect i ulx uly lrx lry uls ult dsdx dtdy row ∷ es) h = absurd h

begins_more : {A : Type 0} (es : List Entry) (o : Out A) → Begins es → Begins (entries_out o) → Begins (entries_out (more es o))
begins_more [] (go fs a) h k = k
begins_more [] (stop fs l v) h k = k
begins_more (entry.Tile i fmt siz line tmem palette cms cmt masks maskt ∷ es) (go fs a) h k = h
begins_more (entry.Tile i fmt siz line tmem palette cms cmt masks maskt ∷ es) (stop fs l v) h k = h
begins_more (entry.Image fmt siz width address ∷ es) o h k = absurd h
begins_more (entry.Size i uls ult lrs lrt ∷ es) o h k = absurd h
begins_more (entry.Load i uls ult lrs lrt words rows stride start len ∷ es) o h k = absurd h
begins_more (entry.Rect i ulx uly lrx lry uls ult dsdx dtdy row ∷ es) o h k = absurd h

begins_bind : {A B : Type 0} (a : Out A) (k : A → Out B) → Begins (entries_out a) → ((x : A) → Begins (entries_out (k x))) → Begins (entries_out (a >>= k))
begins_bind (go es x) k h f = begins_more es (k x) h (f x)
begins_bind (stop es l v) k h f = h

-- whatever comes after a first setting of tile 7
module _ (fmt siz line tmem palette cms cmt masks maskt : ℕ) where
  first_more : {A : Type 0} (es : List Entry) (o : Out A) → Begins (entries_out (more (entry.Tile 7 fmt siz line tmem palette cms cmt masks maskt ∷ es) o))
  first_more es (go fs x) = refl
  first_more es (stop fs l v) = refl

  first_then : {A B : Type 0} (es : List Entry) (a : Out A) (k : A → Out B) → Begins (entries_out (more (entry.Tile 7 fmt siz line tmem palette cms cmt masks maskt ∷ es) a >>= k))
  first_then es (go fs x) k = first_more (es ++ fs) (k x)
  first_then es (stop fs l v) k = refl

-- ---- copy plans

entries_begin : (c : Copy) (y sy h x : ℕ) (s : Strip) → Begins (entries_out (strip_entries c y sy h x s))
unfolding strip_entries
entries_begin c y sy h x s = search (first_then)

strip_begins : (c : Copy) (y sy h x : ℕ) (s : Strip) → Begins (entries_out (strip c y sy h x s))
unfolding strip
strip_begins c y sy h x s = by (ltb c.capacity (s.line * h)) refl
  where
    by : (t : Bool) → ltb c.capacity (s.line * h) ≡ t → Begins (entries_out (strip c y sy h x s))
    by true p = rw (p, strip) tt
    by false p = rw (p, strip) (begins_bind (strip_entries c y sy h x s) (λ _. yield (x + s.strip_width)) (entries_begin c y sy h x s) (λ _. tt))

columns_begin : (n : ℕ) (c : Copy) (y sy h x : ℕ) → Begins (entries_out (columns n c y sy h x))
unfolding columns
columns_begin zero c y sy h x = tt
columns_begin (suc n) c y sy h x = by (ltb x c.width) refl (λ next. columns_begin n c y sy h next)
  where
    by : (t : Bool) → ltb x c.width ≡ t → ((next : ℕ) → Begins (entries_out (columns n c y sy h next))) → Begins (entries_out (columns (suc n) c y sy h x))
    by true p r = rw (columns_on n c y sy h x p) (begins_bind (strip c y sy h x (strip_of c x)) (λ next. columns n c y sy h next) (strip_begins c y sy h x (strip_of c x)) r)
    by false p r = rw (columns_end (suc n) c y sy h x p) tt

rows_begin : (n : ℕ) (c : Copy) (y : ℕ) → Begins (entries_out (rows n c y))
unfolding rows
rows_begin zero c y = tt
rows_begin (suc n) c y = by (ltb y c.height) refl (rows_begin n c (y + strip_height_of c y))
  where
    by : (t : Bool) → ltb y c.height ≡ t → Begins (entries_out (rows n c (y + strip_height_of c y))) → Begins (entries_out (rows (suc n) c y))
    by true p r = rw (rows_on n c y p) (begins_bind (columns c.width c y (strip_row_of c y) (strip_height_of c y) 0) (λ _. rows n c (y + strip_height_of c y)) (columns_begin c.width c y (strip_row_of c y) (strip_height_of c y) 0) (λ _. r))
    by false p r = rw (rows_end (suc n) c y p) tt

copy_loads : (c : Copy) → LoadsAfter false (entries_out (copy_plan c))
unfolding copy_plan
copy_loads c = by (rows c.height c 0) (begun (entries_out (rows c.height c 0)) (rows_begin c.height c 0))
  where
    by : (o : Out (Unit {0})) → LoadsAfter false (entries_out o) → LoadsAfter false (entries_out (more (entry.Image c.fmt c.siz (field c) c.address ∷ []) o))
    by (go es u) h = h
    by (stop es l v) h = h

-- ---- scaled plans

address_begins : (address : ℕ) (offset : ℤ) → Begins (entries_out (source_address address offset))
unfolding source_address
address_begins address offset = by (lt_z (pos address +ℤ offset) (pos 0)) (ltb (up (pos address +ℤ offset)) (2 ^ 64))
  where
    by : (t u : Bool) → Begins (entries_out {A = ℕ} (elim t [ true ↦ stop [] [] verdict.Address | false ↦ elim u [ true ↦ go [] (up (pos address +ℤ offset)) | false ↦ stop [] [] verdict.Address ] ]))
    by true u = tt
    by false true = tt
    by false false = tt

scaled_loads : (z : Scaled) (c : Clip) (f : First) → LoadsAfter false (entries_out (scaled_plan z c f))
unfolding scaled_plan
scaled_loads z c f = begun (entries_out (scaled_plan z c f)) (begins_bind (source_address _ _) _ (address_begins _ _) (λ p.
    first_more 0 (size_of z) (z.line % 2 ^ 16) 0 0 0 0 0 0 (entry.Tile 0 z.fmt z.siz (z.line % 2 ^ 16) 0 z.palette 1 1 15 15 ∷ entry.Size 0 0 0 0 0 ∷ []) (passes (65 * texels (quarters c.height)) z (first_pass z c f p))))

-- ---- every plan

either : (t : Bool) (a b : Out (Unit {0})) → LoadsAfter false (entries_out a) → LoadsAfter false (entries_out b) → LoadsAfter false (entries_out {A = Unit {0}} (elim t [ true ↦ a | false ↦ b ]))
either true a b h k = h
either false a b h k = k

checked_loads : (r : Checked) (q : Request) → LoadsAfter false (entries_out (checked_out r q))
unfolding checked_out copy_out scaled_out
checked_loads (Err v) q = tt
checked_loads (Ok (background.Copy bg)) q = let c = copy_of bg q.scissor q.address in either (copy_empty c) (yield tt) (copy_plan c) tt (copy_loads c)
checked_loads (Ok (background.Scaled bg)) q =
    let c = clip_of bg q.scissor in
    let i = start_of bg c in
    let z = scaled_of bg q.mode q.address c i in
    either (scaled_empty c) (yield tt) (elim (slices_bad z) [ true ↦ refuse verdict.Slices | false ↦ scaled_plan z c (first_of z i) ]) tt
    (either (slices_bad z) (refuse verdict.Slices) (scaled_plan z c (first_of z i)) tt (scaled_loads z c (first_of z i)))

pub loads_after : (q : Request) → LoadsAfter false (plan_of q).entries
unfolding plan_of plan_with
loads_after q = by (checked_out (checked_of 4 q.bytes q.opcode q.scissor) q) (checked_loads (checked_of 4 q.bytes q.opcode q.scissor) q)
  where
    by : (o : Out (Unit {0})) → LoadsAfter false (entries_out o) → LoadsAfter false (plan_out o).entries
    by (go es u) h = h
    by (stop es l v) h = h

-- ---- tile words by the bank

-- tile 7's line after an entry
abbrev line_after : ℕ → Entry → ℕ
line_after l (entry.Image fmt siz width address) = l
line_after l (entry.Tile i fmt siz line tmem palette cms cmt masks maskt) = cond (eqb i 7) line l
line_after l (entry.Size i uls ult lrs lrt) = l
line_after l (entry.Load i uls ult lrs lrt words rows stride start len) = l
line_after l (entry.Rect i ulx uly lrx lry uls ult dsdx dtdy row) = l

-- a tile that is set to one with this line, or left
set_line : (ts : List Tile) (i : ℕ) (t : Tile) (line : ℕ) → length ts ≡ 8 → t.line ≡ line → (get_or (set ts i t) 7 blank).line ≡ cond (eqb i 7) line (get_or ts 7 blank).line
set_line ts i t line n h = by (eqb i 7) refl
  where
    by : (u : Bool) → eqb i 7 ≡ u → (get_or (set ts i t) 7 blank).line ≡ cond u line (get_or ts 7 blank).line
    by true e = rw (eqb-true i 7 e) (ap (λ (x : Tile). x.line) (get_or-set_same ts 7 t blank (omega arith)) ∙ h)
    by false e = ap (λ (x : Tile). x.line) (get_or-set_other ts i 7 t blank (λ z. eqb-false i 7 e (sym z)))

kept_line : (ts : List Tile) (i : ℕ) (t : Tile) → length ts ≡ 8 → t.line ≡ (get_or ts i blank).line → (get_or (set ts i t) 7 blank).line ≡ (get_or ts 7 blank).line
kept_line ts i t n h = by (eqb i 7) refl
  where
    by : (u : Bool) → eqb i 7 ≡ u → (get_or (set ts i t) 7 blank).line ≡ (get_or ts 7 blank).line
    by true e =
        let z = eqb-true i 7 e in
        rw z (ap (λ (x : Tile). x.line) (get_or-set_same ts 7 t blank (omega arith)) ∙ h ∙ ap (λ (j : ℕ). (get_or ts j blank).line) z)
    by false e = ap (λ (x : Tile). x.line) (get_or-set_other ts i 7 t blank (λ z. eqb-false i 7 e (sym z)))

line_step : (b : Bank) (e : Entry) → length b.tiles ≡ 8 → (get_or (bank_step b e).tiles 7 blank).line ≡ line_after (get_or b.tiles 7 blank).line e
unfolding bank_step set_tile set_size
line_step b (entry.Image fmt siz width address) n = refl
line_step b (entry.Tile i fmt siz line tmem palette cms cmt masks maskt) n = set_line b.tiles i _ line n refl
line_step b (entry.Size i uls ult lrs lrt) n = kept_line b.tiles i _ n refl
line_step b (entry.Load i uls ult lrs lrt words rows stride start len) n = kept_line b.tiles i _ n refl
line_step b (entry.Rect i ulx uly lrx lry uls ult dsdx dtdy row) n = refl

-- the bank's own lines, and a line of 0 at the start: the same where each load stands after a setting
module _ (b : Bank) (n : length b.tiles ≡ 8) (e : Entry) (es : List Entry) where
  bank_words : words_in (bank_step b e) es ≡ words_from (get_or (bank_step b e).tiles 7 blank).line es → words_in (bank_step b e) es ≡ words_from (line_after (get_or b.tiles 7 blank).line e) es
  bank_words r = r ∙ ap (λ (l : ℕ). words_from l es) (line_step b e n)

words_from_lem : (es : List Entry) (b : Bank) → length b.tiles ≡ 8 → words_in b es ≡ words_from (get_or b.tiles 7 blank).line es
unfolding words_in words_from
words_from_lem [] b n = refl
words_from_lem (e ∷ es) b n = by e (bank_words b n e es (words_from_lem es (bank_step b e) (eight_still b e ∙ n)))
  where
    by : (e : Entry) → words_in (bank_step b e) es ≡ words_from (line_after (get_or b.tiles 7 blank).line e) es → words_in b (e ∷ es) ≡ words_from (get_or b.tiles 7 blank).line (e ∷ es)
    by (entry.Image fmt siz width address) r = r
    by (entry.Tile i fmt siz line tmem palette cms cmt masks maskt) r = r
    by (entry.Size i uls ult lrs lrt) r = r
    by (entry.Load i uls ult lrs lrt words rows stride start len) r = ap (max (rows * (get_or b.tiles 7 blank).line)) r
    by (entry.Rect i ulx uly lrx lry uls ult dsdx dtdy row) r = r

any_line : (es : List Entry) (done : Bool) → LoadsAfter done es → (l m : ℕ) → (done ≡ true → l ≡ m) → words_from l es ≡ words_from m es
unfolding words_from
any_line [] done h l m e = refl
any_line (entry.Image fmt siz width address ∷ es) done h l m e = any_line es done h l m e
any_line (entry.Tile i fmt siz line tmem palette cms cmt masks maskt ∷ es) done h l m e = any_line es (eqb i 7 || done) h (cond (eqb i 7) line l) (cond (eqb i 7) line m) (by (eqb i 7))
  where
    by : (t : Bool) → (t || done) ≡ true → cond t line l ≡ cond t line m
    by true k = refl
    by false k = e k
any_line (entry.Size i uls ult lrs lrt ∷ es) done h l m e = any_line es done h l m e
any_line (entry.Load i uls ult lrs lrt words rows stride start len ∷ es) done h l m e = ap (λ (k : ℕ). max (rows * k) (words_from l es)) (e h.0) ∙ ap (max (rows * m)) (any_line es done h.1 l m e)
any_line (entry.Rect i ulx uly lrx lry uls ult dsdx dtdy row ∷ es) done h l m e = any_line es done h l m e

-- D "Tile words are the largest rows × line of any single load given": of every plan, on every bank
pub tile_words_lem : (q : Request) (b : Bank) → length b.tiles ≡ 8 → words_in b (plan_of q).entries ≡ tile_words (plan_of q).entries
tile_words_lem q b n = words_from_lem (plan_of q).entries b n ∙ any_line (plan_of q).entries false (loads_after q) (get_or b.tiles 7 blank).line 0 (λ e. absurd (true≢false (sym e)))
