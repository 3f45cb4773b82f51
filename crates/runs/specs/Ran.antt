-- A whole run: what it has written so far and what is still to come, until the end or a full buffer. D is docs/SPECIFICATION.md.
-- Assumes nothing.
use Rattle.std.specs.Prelude.{◌≡◌, Bool, true, false, cond, Ok, Err}
use Rattle.std.proofs.Math.Path.{refl, sym, ap}
use Rattle.std.proofs.Common.{subst, ◌∙◌, arith, drop_at, take_all, drop-drop, lt-ltb, le-ltb}
use mathlib.Core.List.{List, [], ◌∷◌, ◌++◌, append_assoc, append-nil}
use Prim.Native.Nat.{ℕ, suc, ◌+◌, ◌-◌, ◌*◌, ◌/◌, ◌≤◌, ◌<◌}
use Rattle.std.proofs.Math.ListN.{length, take, drop, length-append}
use Rattle.std.proofs.Math.Seq.{paste, take_at}
use Rattle.std.proofs.lemmas.List.Edits.{length-paste}
use Rattle.object.specs.declared.types.Scissor.{Scissor}
use Rattle.object.specs.declared.types.Verdict.{Verdict}
use Rattle.object.specs.declared.types.Verdict.TheVariants as verdict
use Rattle.tile.specs.declared.bank.Bank.{Bank}
use Rattle.plan.specs.declared.types.Entry.{Entry}
use Rattle.plan.specs.declared.types.End.{End}
use Rattle.plan.specs.Out.{Plan}
use Rattle.plan.specs.Whole.{plan_of}
use Rattle.plan.specs.Run.{entry_words, plan_words, end_of, cut_at, run_of}
use Rattle.plan.specs.Sound.{EntryIn}
use Rattle.plan.specs.Steps.{Coming, coming_of}
use Rattle.words.specs.declared.count.Counts.{Counts}
use Rattle.giving.specs.declared.giving.Places.{Places}
use Rattle.words.specs.Counts.{zero_counts, counted_of, counted_all, end_with}
use Rattle.words.proofs.CountsLaws.{counted_entries, end_of_lem}
use Rattle.words.specs.Eleven.{eleven, eleven_each, words_append}
use Rattle.giving.specs.Host.{bank_numbers, words_after, run_words}
use Rattle.giving.proofs.HostLaws.{after_append, run_end, run_bank, run_buffer}
use Rattle.giving.specs.Places.{no_places, placed_of, settled_of, PlacesIn}
use Rattle.giving.specs.Placed.{Placed}
use Rattle.giving.proofs.Placed.{placed_start, placed_more, places_in, settled_is}
use Rattle.planner.specs.declared.types.Course.{Course}
use Rattle.planner.specs.declared.types.Course.TheVariants as course
use Rattle.planner.specs.Planner.{Planner}
use Rattle.planner.specs.declared.types.Stop.{Stop}
use Rattle.planner.specs.declared.types.Step.{Step}
use Rattle.planner.specs.Coming.{coming, coming_course, coming_from, counts_next, left_in, StepGives, request_of}
use Rattle.planner.specs.Planner.{Sound}
use Rattle.planner.proofs.StepLaws.{gave_entry, gave_rest, gave_end, counts_at_end}

-- D "A whole run writes entries of eleven 64-bit words": the end, the whole buffer and the bank's words
pub record RanIs (bytes : List ℕ) (opcode : ℕ) (scissor : Scissor) (mode address : ℕ) (buf ws out ws' : List ℕ) (r : End) : Type 0 where
  pub end : r ≡ (run_words (plan_of (request_of bytes opcode scissor mode address)) buf ws).end
  pub bank : ws' ≡ (run_words (plan_of (request_of bytes opcode scissor mode address)) buf ws).bank
  pub buffer : out ≡ (run_words (plan_of (request_of bytes opcode scissor mode address)) buf ws).buffer

-- on the numbers of a bank, it is the run of D 10.4
pub ran_is : (bytes : List ℕ) (opcode : ℕ) (scissor : Scissor) (mode address : ℕ) (buf out ws' : List ℕ) (r : End) (b : Bank) → length b.tiles ≡ 8 → RanIs bytes opcode scissor mode address buf (bank_numbers b) out ws' r
    → (r ≡ (run_of (plan_of (request_of bytes opcode scissor mode address)) buf b).end) × (ws' ≡ bank_numbers (run_of (plan_of (request_of bytes opcode scissor mode address)) buf b).bank) × (out ≡ (run_of (plan_of (request_of bytes opcode scissor mode address)) buf b).buffer)
ran_is bytes opcode scissor mode address buf out ws' r b n h =
    let p = plan_of (request_of bytes opcode scissor mode address) in
    (h.end ∙ run_end p buf (bank_numbers b) b, h.bank ∙ run_bank p buf b n, h.buffer ∙ run_buffer p buf (bank_numbers b) b)

-- the words from one entry to the next: none where entries are only counted
abbrev pub stride_of : Bool → ℕ
stride_of kept = cond kept 11 0

-- where steps lead: a run's answer if the entries are kept, else the end
abbrev pub StepsTo : (kept : Bool) → Coming → (buf ws out ws' : List ℕ) → End → Type 0
StepsTo true k buf ws out ws' r = (plan : Plan) → k ≡ coming_of plan → (r ≡ (run_words plan buf ws).end) × ((ws' ≡ (run_words plan buf ws).bank) × (out ≡ (run_words plan buf ws).buffer))
StepsTo false k buf ws out ws' r = r ≡ k.end

-- `given` is in the buffer, and the places are where its entries stand
pub record Kept (buf out : List ℕ) (at : ℕ) (ps : Places) (given : List Entry) : Type 0 where
  pub place : at ≡ 11 * length given
  pub fits : 11 * length given ≤ length buf
  pub same : length out ≡ length buf
  pub buffer : out ≡ plan_words given ++ drop (11 * length given) buf
  pub placed : Placed given ps

-- entries that are only counted all go to the buffer's first words
abbrev pub Written : (kept : Bool) → (buf out : List ℕ) → (at : ℕ) → Places → List Entry → Type 0
Written true buf out at ps given = Kept buf out at ps given
Written false buf out at ps given = (at ≡ 0) × ((length out ≡ length buf) × (11 ≤ length buf))

-- steps that are under way: `given` is given, the rest is to come
pub record Going (kept : Bool) (k : Coming) (buf out : List ℕ) (p : Planner) (n : Counts) (at : ℕ) (ps : Places) : Type 0 where
  pub given : List Entry
  pub whole : k.entries ≡ given ++ (coming p).entries
  pub left : k.left ≡ (coming p).left
  pub end : k.end ≡ (coming p).end
  pub counts : p.counts ≡ counted_all zero_counts given
  pub same : n ≡ p.counts
  pub written : Written kept buf out at ps given
  pub sound : Sound p

-- ---- lists

counts_append : (es fs : List Entry) (n : Counts) → counted_all n (es ++ fs) ≡ counted_all (counted_all n es) fs
unfolding counted_all
counts_append [] fs n = refl
counts_append (e ∷ es) fs n = counts_append es fs (counted_of n e)

more_words : (es : List Entry) (e : Entry) → plan_words (es ++ e ∷ []) ≡ plan_words es ++ entry_words e
unfolding plan_words
more_words es e = words_append es (e ∷ []) ∙ ap (λ (x : List ℕ). plan_words es ++ x) (append-nil (entry_words e))

one_more : (es : List Entry) (e : Entry) (k : Counts) → counted_all k (es ++ e ∷ []) ≡ counted_of (counted_all k es) e
unfolding counted_all
one_more es e k = counts_append es (e ∷ []) k

-- the buffer with eleven more words
paste_more : (xs ws buf : List ℕ) (a : ℕ) → length ws ≡ 11 → length xs ≡ a → paste (xs ++ drop a buf) a ws 11 ≡ (xs ++ ws) ++ drop (a + 11) buf
paste_more xs ws buf a w l =
    ap (λ (h : List ℕ). (h ++ take 11 ws) ++ drop (a + 11) (xs ++ drop a buf)) (take_at xs (drop a buf) a l)
    ∙ ap (λ (h : List ℕ). (xs ++ h) ++ drop (a + 11) (xs ++ drop a buf)) (take_all 11 ws (omega arith))
    ∙ ap (λ (h : List ℕ). (xs ++ ws) ++ h) (sym (drop-drop 11 a (xs ++ drop a buf)) ∙ ap (drop 11) (drop_at xs (drop a buf) a l) ∙ drop-drop 11 a buf)

-- ---- steps start, go on, and end

pub going_start : (kept : Bool) (p : Planner) → Sound p → p.counts ≡ zero_counts → (buf : List ℕ) → (kept ≡ false → 11 ≤ length buf) → (stride : ℕ) → Going kept (coming p) buf buf p p.counts (p.counts.entries * stride) no_places
unfolding counted_all plan_words
going_start kept p h n buf room stride =
    record { given = []; whole = refl; left = refl; end = refl; counts = n; same = refl; written = by kept room; sound = h }
  where
    first : p.counts.entries * stride ≡ 0
    first = let z : 0 * stride ≡ 0 = omega arith in ap (λ (m : Counts). m.entries * stride) n ∙ z

    by : (kept : Bool) → (kept ≡ false → 11 ≤ length buf) → Written kept buf buf (p.counts.entries * stride) no_places []
    by true r = record { place = first; fits = omega arith; same = refl; buffer = refl; placed = placed_start }
    by false r = (first, (refl, r refl))

-- the buffer keeps its length, the place lies in it, and the places are those of entries
module _ {k : Coming} {buf out : List ℕ} {p : Planner} {n : Counts} {at : ℕ} {ps : Places} where
  pub still_long : (kept : Bool) → Going kept k buf out p n at ps → length out ≡ length buf
  still_long true g = g.written.same
  still_long false g = g.written.1.0

  pub at_in : (kept : Bool) → Going kept k buf out p n at ps → at ≤ length out
  at_in true g = let l = g.written.place in let h = g.written.fits in let m = g.written.same in omega arith
  at_in false g = let l = g.written.0 in omega arith

  pub going_places : (kept : Bool) → Going kept k buf out p n at ps → kept ≡ true → PlacesIn out ps
  going_places true g t = places_in g.given ps g.written.placed out _ g.written.buffer
  going_places false g t = let z : ◌≡◌ {A = ℕ} 0 1 = cc in absurd (omega arith)

  going_settled : (g : Going true k buf out p n at ps) (ws : List ℕ) → settled_of ws out ps ≡ words_after ws g.given
  going_settled g ws = settled_is g.given ps g.written.placed out _ g.written.buffer ws

-- the place of the entry after one that is counted
pub next_place : (kept : Bool) (stride : ℕ) → stride ≡ stride_of kept → (n : Counts) (e : Entry) → (counted_of n e).entries * stride ≡ n.entries * stride + stride_of kept
next_place true stride s n e = rw s (omega (arith, counted_entries n e))
next_place false stride s n e = rw s (omega arith)

-- one more entry in the buffer
written_more : (kept : Bool) (buf out : List ℕ) (at : ℕ) (ps : Places) (gs : List Entry) (e : Entry) → Written kept buf out at ps gs → at + 11 ≤ length out → EntryIn e
    → Written kept buf (paste out at (entry_words e) 11) (at + stride_of kept) (placed_of ps at e) (gs ++ e ∷ [])
written_more true buf out at ps gs e w room i =
    let l = w.place in
    let m = w.same in
    let len : length (gs ++ e ∷ []) ≡ length gs + 1 = length-append gs (e ∷ []) in
    let d : at + 11 ≡ 11 * length (gs ++ e ∷ []) = omega arith in
    record {
      place = d;
      fits = omega arith;
      same = length-paste out at (entry_words e) 11 room (omega (arith, eleven e)) ∙ m;
      buffer =
          ap (λ (x : List ℕ). paste x at (entry_words e) 11) (w.buffer ∙ ap (λ (n : ℕ). plan_words gs ++ drop n buf) (sym l))
          ∙ paste_more (plan_words gs) (entry_words e) buf at (eleven e) (eleven_each gs ∙ sym l)
          ∙ ap (λ (x : List ℕ). x ++ drop (at + 11) buf) (sym (more_words gs e))
          ∙ ap (λ (n : ℕ). plan_words (gs ++ e ∷ []) ++ drop n buf) d;
      placed = placed_more gs ps w.placed at l e i;
    }
written_more false buf out at ps gs e w room i = let l = w.0 in (omega arith, (length-paste out at (entry_words e) 11 room (omega (arith, eleven e)) ∙ w.1.0, w.1.1))

module _ (kept : Bool) (k : Coming) (buf out : List ℕ) (p : Planner) (n : Counts) (at : ℕ) (ps : Places) (g : Going kept k buf out p n at ps) (s : Step) (i : StepGives p s) where
  -- one more entry
  pub going_more : (e : Entry) → s.given ≡ Ok e → (out' : List ℕ) (n' : Counts) (at' : ℕ) (ps' : Places) → out' ≡ paste out at (entry_words e) 11 → n' ≡ counted_of n e → ps' ≡ placed_of ps at e → at' ≡ at + stride_of kept → at + 11 ≤ length out
      → Going kept k buf out' s.planner n' at' ps'
  going_more e a out' n' at' ps' o m q l room =
      let gs = g.given in
      let es_is = gave_entry p s i e a in
      let rest_is = gave_rest p s i e a in
      let counts_is : s.planner.counts ≡ counted_of p.counts e = i.counts ∙ ap (λ (es : List Entry). counts_next es p.counts) es_is in
      record {
        given = gs ++ e ∷ [];
        whole = g.whole ∙ ap (λ (es : List Entry). gs ++ es) es_is ∙ sym (append_assoc gs (e ∷ []) (drop 1 (coming p).entries)) ∙ ap (λ (c : Coming). (gs ++ e ∷ []) ++ c.entries) (sym rest_is);
        left = g.left ∙ ap (λ (c : Coming). c.left) (sym rest_is);
        end = g.end ∙ ap (λ (c : Coming). c.end) (sym rest_is);
        counts = counts_is ∙ ap (λ (x : Counts). counted_of x e) g.counts ∙ sym (one_more gs e zero_counts);
        same = m ∙ ap (λ (x : Counts). counted_of x e) g.same ∙ sym counts_is;
        written = rw (o, l, q) (written_more kept buf out at ps gs e g.written room (rw a at i.ranges));
        sound = i.sound;
      }

-- all entries are written
module _ (plan : Plan) (buf ws out : List ℕ) (p : Planner) (n : Counts) (at : ℕ) (ps : Places) (g : Going true (coming_of plan) buf out p n at ps) where
  module _ (none : (coming p).entries ≡ []) where
    all_given : plan.entries ≡ g.given
    all_given = g.whole ∙ ap (λ (es : List Entry). g.given ++ es) none ∙ append-nil g.given

    uncut : cut_at (length buf) plan ≡ plan
    unfolding cut_at
    uncut =
        let l = ap length all_given in
        let h = g.written.fits in
        rw (le-ltb (length buf / 11) (length plan.entries) (omega arith))

    end_end : (coming p).end ≡ (run_words plan buf ws).end
    unfolding run_words
    end_end = sym g.end ∙ ap end_of (sym uncut)

    end_bank : words_after (settled_of ws out ps) (coming p).left ≡ (run_words plan buf ws).bank
    unfolding run_words
    end_bank =
        ap (λ (x : List ℕ). words_after x (coming p).left) (going_settled g ws)
        ∙ sym (after_append g.given (coming p).left ws)
        ∙ ap (λ (es : List Entry). words_after ws (es ++ (coming p).left)) (sym all_given)
        ∙ ap (λ (es : List Entry). words_after ws (plan.entries ++ es)) (sym g.left)
        ∙ ap (λ (x : Plan). words_after ws (x.entries ++ x.left)) (sym uncut)

    end_buffer : out ≡ (run_words plan buf ws).buffer
    unfolding run_words
    end_buffer =
        g.written.buffer ∙ ap (λ (es : List Entry). plan_words es ++ drop (11 * length es) buf) (sym all_given) ∙ ap (λ (x : Plan). plan_words x.entries ++ drop (11 * length x.entries) buf) (sym uncut)

  -- another entry comes, and there is no room for it
  module _ (x : Entry) (es : List Entry) (some : (coming p).entries ≡ x ∷ es) (short : length out - at < 11) where
    room : length buf / 11 ≡ length g.given
    room = let m = g.written.same in let l = g.written.place in let h = g.written.fits in omega arith

    parts : plan.entries ≡ g.given ++ x ∷ es
    parts = g.whole ∙ ap (λ (l : List Entry). g.given ++ l) some

    cut : cut_at (length buf) plan ≡ record { entries = g.given; left = []; verdict = verdict.Full }
    unfolding cut_at
    cut =
        let k = room in
        let l = ap length parts ∙ length-append g.given (x ∷ es) in
        rw (lt-ltb (length buf / 11) (length plan.entries) (omega (arith, longer es)))
        (ap (λ (l : List Entry). record { entries = l; left = []; verdict = verdict.Full }) (ap (λ (n : ℕ). take n plan.entries) room ∙ ap (take (length g.given)) parts ∙ take_at g.given (x ∷ es) (length g.given) refl))
      where
        longer : (l : List Entry) → length (x ∷ l) ≡ suc (length l)
        longer l = refl

    full_end : end_with p.counts verdict.Full ≡ (run_words plan buf ws).end
    unfolding run_words
    full_end = ap (λ (n : Counts). end_with n verdict.Full) g.counts ∙ end_of_lem (record { entries = g.given; left = []; verdict = verdict.Full }) ∙ ap end_of (sym cut)

    full_bank : settled_of ws out ps ≡ (run_words plan buf ws).bank
    unfolding run_words
    full_bank = going_settled g ws ∙ ap (words_after ws) (sym (append-nil g.given)) ∙ ap (λ (y : Plan). words_after ws (y.entries ++ y.left)) (sym cut)

    full_buffer : out ≡ (run_words plan buf ws).buffer
    unfolding run_words
    full_buffer = g.written.buffer ∙ ap (λ (y : Plan). plan_words y.entries ++ drop (11 * length y.entries) buf) (sym cut)

-- the steps are over where no entry comes next, or where there is no room; then the bank is settled
module _ (k : Coming) (buf ws out ws' : List ℕ) (p : Planner) (n : Counts) (at : ℕ) (ps : Places) (s : Step) (i : StepGives p s) where
  pub steps_end : (kept : Bool) → Going kept k buf out p n at ps → (x : Stop) → s.given ≡ Err x → ws' ≡ cond kept (settled_of ws out ps) ws → (ws'' : List ℕ) → ws'' ≡ words_after ws' (left_in (Err x)) → (r : End) → r ≡ end_with n x.end.verdict
      → StepsTo kept k buf ws out ws'' r
  steps_end kept g x j b ws'' b' r e = by kept g b
    where
      t : ((coming p).entries ≡ []) × ((x.end ≡ (coming p).end) × ((coming p).left ≡ left_in (Err x)))
      t = gave_end p s i x j

      r_is : n ≡ p.counts → r ≡ (coming p).end
      r_is m = e ∙ ap (λ (y : Counts). end_with y x.end.verdict) m ∙ ap (λ (y : End). end_with p.counts y.verdict) t.1.0 ∙ sym (counts_at_end p t.0)

      by : (kept : Bool) → Going kept k buf out p n at ps → ws' ≡ cond kept (settled_of ws out ps) ws → StepsTo kept k buf ws out ws'' r
      by true g b = λ plan q.
          let h = subst (λ (c : Coming). Going true c buf out p n at ps) q g in
          (r_is g.same ∙ end_end plan buf ws out p n at ps h t.0, (b' ∙ ap (λ (vs : List ℕ). words_after vs (left_in (Err x))) b ∙ ap (words_after (settled_of ws out ps)) (sym t.1.1) ∙ end_bank plan buf ws out p n at ps h t.0, end_buffer plan buf ws out p n at ps h t.0))
      by false g b = r_is g.same ∙ sym g.end

  pub steps_full : (kept : Bool) → Going kept k buf out p n at ps → (e : Entry) → s.given ≡ Ok e → length out - at < 11 → ws' ≡ cond kept (settled_of ws out ps) ws → (r : End) → r ≡ end_with n verdict.Full → StepsTo kept k buf ws out ws' r
  steps_full true g e j l b r a =
      let some = gave_entry p s i e j in
      λ plan q.
      let h = subst (λ (c : Coming). Going true c buf out p n at ps) q g in
      (a ∙ ap (λ (y : Counts). end_with y verdict.Full) g.same ∙ full_end plan buf ws out p n at ps h e _ some l, (b ∙ full_bank plan buf ws out p n at ps h e _ some l, full_buffer plan buf ws out p n at ps h e _ some l))
  steps_full false g e j l b r a = let w = g.written in absurd (omega (arith, w.0, w.1.0, w.1.1))

-- where nothing is to come, nothing is changed
module _ (k : Coming) (none : k.entries ≡ []) (clean : k.left ≡ []) (buf ws : List ℕ) where
  module _ (plan : Plan) (q : k ≡ coming_of plan) where
    empty : plan.entries ≡ []
    empty = ap (λ (c : Coming). c.entries) (sym q) ∙ none

    whole : cut_at (length buf) plan ≡ plan
    unfolding cut_at
    whole = let l = ap length empty in rw (le-ltb (length buf / 11) (length plan.entries) (omega arith))

    none_end : k.end ≡ (run_words plan buf ws).end
    unfolding run_words
    none_end = ap (λ (c : Coming). c.end) q ∙ ap end_of (sym whole)

    none_bank : ws ≡ (run_words plan buf ws).bank
    unfolding run_words words_after
    none_bank =
        ap (λ (es : List Entry). words_after ws (es ++ [])) (sym empty)
        ∙ ap (λ (es : List Entry). words_after ws (plan.entries ++ es)) (sym (ap (λ (c : Coming). c.left) (sym q) ∙ clean))
        ∙ ap (λ (x : Plan). words_after ws (x.entries ++ x.left)) (sym whole)

    none_buffer : buf ≡ (run_words plan buf ws).buffer
    unfolding run_words plan_words
    none_buffer = ap (λ (es : List Entry). plan_words es ++ drop (11 * length es) buf) (sym empty) ∙ ap (λ (x : Plan). plan_words x.entries ++ drop (11 * length x.entries) buf) (sym whole)

  steps_none : (kept : Bool) → StepsTo kept k buf ws buf ws k.end
  steps_none true = λ plan q. (none_end plan q, (none_bank plan q, none_buffer plan q))
  steps_none false = refl

-- a planner that is over
pub steps_over : (kept : Bool) (p : Planner) (v : Verdict) → p.course ≡ course.Over v → (buf ws : List ℕ) → StepsTo kept (coming p) buf ws buf ws (end_with p.counts v)
unfolding coming counted_all
steps_over kept p v e buf ws =
    subst (λ (x : End). StepsTo kept (coming p) buf ws buf ws x) (ap (λ (w : Course). (coming_from (coming_course w) p.counts).end) e)
    (steps_none (coming p) (ap (λ (w : Course). (coming_course w).entries) e) (ap (λ (w : Course). (coming_course w).left) e) buf ws kept)
