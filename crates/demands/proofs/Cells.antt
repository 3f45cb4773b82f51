-- The cells of a copy plan over the planner's own steps, with a bank or without, over a whole run, and over the words that the exported run and the exported steps leave: where the end has verdict 0, each has the whole plan's entries, of which crates/cells and crates/sample have what is claimed.
-- Assumes nothing.
use Rattle.std.specs.Prelude.{◌≡◌, refl, Bool, true, false, cond, ◌&&◌, List, [], ◌∷◌, ℕ, zero, suc, ◌+◌, ◌-◌, ◌*◌, ◌/◌, ◌≤◌, ℤ, pos, negsuc, eqb, ltb, length, take, drop, map, get_or}
use Rattle.std.proofs.Common.{sym, ap, subst, ◌∙◌, true≢false, arith, eqb-true, to_z, SFits}
use Rattle.std.specs.Int.{w64}
use Rattle.signed.specs.Diff.{zarith}
use Rattle.signed.specs.Cast.{word}
use Rattle.measures.specs.Measure.{quarters, of_texels}
use Rattle.object.specs.declared.types.Scissor.{Scissor}
use Rattle.object.specs.declared.types.Verdict.{Verdict}
use Rattle.object.specs.declared.types.Verdict.TheVariants as verdict
use Rattle.object.specs.Layout.{Bytes}
use Rattle.checks.specs.Check.{verdict_number}
use Rattle.tile.specs.declared.bank.Bank.{Bank}
use Rattle.plan.specs.Request.{Request}
use Rattle.plan.specs.declared.types.Entry.{Entry}
use Rattle.plan.specs.declared.types.Entry.TheVariants.{Image, Tile, Size, Load, Rect}
use Rattle.plan.specs.declared.types.End.{End}
use Rattle.plan.specs.Out.{Plan}
use Rattle.plan.specs.Run.{entry_words, end_of, cut_at}
use Rattle.plan.specs.Steps.{Answer, answers}
use Rattle.plan.specs.Whole.{plan_of}
use Rattle.copy.specs.declared.types.Place.{Place}
use Rattle.copy.specs.Walk.{image_entry, tile_entry, tile0_entry, size_entry, rect_entry, first_texel}
use Rattle.small.specs.Small.{Signed16, signed_in}
use Rattle.cells.specs.Places.{places_of}
use Rattle.cells.specs.Given.{load_entry, entries_of}
use Rattle.cells.specs.Met.{EveryCellOnce}
use Rattle.cells.specs.Course.{frame_of}
use Rattle.cells.proofs.Finished.{of_finished}
use Rattle.cells.proofs.Every.{every_cell_once}
use Rattle.sample.specs.Engine.{sample_of}
use Rattle.sample.specs.Shows.{Shows}
use Rattle.sample.proofs.Shows.{shows_at}
use Rattle.drift.specs.Prefix.{entries_in}
use Rattle.drift.proofs.Prefix.{given_is}
use Rattle.drift.specs.Words.{entries_from, reread}
use Rattle.drift.proofs.Words.{read_back}
use Rattle.planner.specs.Planner.{Planner}
use Rattle.planner.specs.Coming.{Fresh, request_of}
use Rattle.giving.specs.Host.{end_numbers, run_words}
use Rattle.runs.specs.Ran.{RanIs}
use Rattle.request.specs.Host.{host_request}
use Rattle.visorlongan.specs.Host.{left, ran_left, host_run}
use Rattle.stored.specs.Stored.{verdict_from}
use Rattle.stored.proofs.Laws.{verdict_back}
use Rattle.stored_fields.proofs.Laws.{word_back}
use Rattle.stepping.specs.Host.{StartIs}
use Rattle.demands.specs.Steps.{Steps, StepsAlone}
use Rattle.demands.proofs.Steps.{with_bank, answered_is}
use Rattle.demands.specs.Calls.{Calls, answered}
use Rattle.demands.proofs.Calls.{plan_stepped}
use Rattle.demands.specs.Stepped.{joined}
use Rattle.demands.proofs.Stepped.{answers_read}
use Rattle.demands.specs.Cells.{Finishes, finishes, Whole}

-- ---- a copy plan's words read back are its entries

signed_back : (z : ℤ) → Signed16 z → to_z w64 (word z) ≡ z
signed_back z h = word_back z (by z h)
  where
    by : (z : ℤ) → Signed16 z → SFits w64 z
    by (pos n) h = let l : n ≤ 32767 = omega (zarith, h.1) in record { sfits = omega arith }
    by (negsuc n) h = let l : n ≤ 32767 = omega (zarith, h.0) in record { sfits = omega arith }

reread_rect : (p : Place) → reread (rect_entry p) ≡ rect_entry p
reread_rect p =
    λ i.
    Rect 0 (quarters p.copy.left + of_texels p.x) (quarters p.copy.top + of_texels p.y) (quarters p.copy.left + of_texels (p.x + p.strip.strip_width - 1)) (quarters p.copy.top + of_texels (p.y + p.strip_height - 1))
    (signed_back (first_texel p.copy.flip p.strip.load_width p.strip.offset) (signed_in _) i)
    (pos 0)
    (pos 0x1000)
    (pos 0x400)
    p.sy

reread_strips : (ps : List Place) → map reread (entries_of ps) ≡ entries_of ps
unfolding entries_of
reread_strips [] = refl
reread_strips (p ∷ ps) = λ i. tile_entry p 7 0 0 ∷ tile0_entry p ∷ size_entry p ∷ load_entry p ∷ reread_rect p i ∷ reread_strips ps i

copy_reread : (q : Request) → q.opcode ≡ 10 → Bytes q.bytes → (plan_of q).verdict ≡ verdict.Finished → map reread (plan_of q).entries ≡ (plan_of q).entries
unfolding plan_of
copy_reread q o b f = of_finished 4 q o b f (λ es. map reread es ≡ es) (λ t. refl) (λ s h. ap (λ (es : List Entry). image_entry (frame_of 4 q) ∷ es) (reread_strips (places_of (frame_of 4 q))))

-- ---- steps that reach the end

ended : (n : ℕ) (es : List Entry) (e : End) → Finishes (answers n es e) → (e.verdict ≡ verdict.Finished) × (take n es ≡ es)
unfolding answers
ended zero es e h = absurd h
ended (suc n) [] e h = (h, refl)
ended (suc n) (x ∷ es) e h = let r = ended n es e h in (r.0, ap (λ (l : List Entry). x ∷ l) r.1)

module _ (bytes : List ℕ) (scissor : Scissor) (mode address : ℕ) where
  abbrev asked : Request
  asked = request_of bytes 10 scissor mode address

  -- any list of steps that reaches the end of a finished plan
  pub steps_whole : (r : Planner) → Fresh bytes 10 scissor mode address r → {k : Bank} {answered : List Answer} {r' : Planner} {k' : Bank} → Steps r k answered r' k' → Finishes answered → Whole asked (entries_in answered)
  unfolding end_of
  steps_whole r fresh {answered = answered} steps f =
      let n = length answered in
      let es = (plan_of asked).entries in
      let a = answered_is bytes 10 scissor mode address r fresh steps in
      let d = ended n es (end_of (plan_of asked)) (subst Finishes a f) in
      record { finished = d.0; is = ap entries_in a ∙ given_is n es (end_of (plan_of asked)) ∙ d.1 }

  -- the same of any list of steps without a bank
  pub alone_whole : (r : Planner) → Fresh bytes 10 scissor mode address r → {answered : List Answer} {r' : Planner} → StepsAlone r answered r' → Finishes answered → Whole asked (entries_in answered)
  alone_whole r fresh steps f = steps_whole r fresh (with_bank steps (record { tiles = [] })).1 f

-- ---- a run with room for the plan

-- a run that ends by 0 has cut nothing
uncut : (n : ℕ) (p : Plan) → (cut_at n p).verdict ≡ verdict.Finished → cut_at n p ≡ p
unfolding cut_at
uncut n p = by (ltb (n / 11) (length p.entries))
  where
    by : (t : Bool) → (cond t (record { entries = take (n / 11) p.entries; left = []; verdict = verdict.Full }) p).verdict ≡ verdict.Finished → cond t (record { entries = take (n / 11) p.entries; left = []; verdict = verdict.Full }) p ≡ p
    by true f = let z : ◌≡◌ {A = ℕ} 10 0 = ap verdict_number f in absurd (omega arith)
    by false f = refl

-- the entries that its buffer reads back as
ran_words_whole : (q : Request) → q.opcode ≡ 10 → Bytes q.bytes → (buf ws : List ℕ) → (run_words (plan_of q) buf ws).end.verdict ≡ verdict.Finished
    → Whole q (entries_from (run_words (plan_of q) buf ws).end.entries (run_words (plan_of q) buf ws).buffer)
unfolding run_words end_of
ran_words_whole q o b buf ws f =
    let cut = cut_at (length buf) (plan_of q) in
    let u = uncut (length buf) (plan_of q) f in
    let g = sym (ap (λ (r : Plan). r.verdict) u) ∙ f in
    record { finished = g; is = read_back cut.entries (drop (11 * length cut.entries) buf) ∙ ap (λ (r : Plan). map reread r.entries) u ∙ copy_reread q o b g }

pub ran_whole : (bytes : List ℕ) (scissor : Scissor) (mode address : ℕ) → Bytes bytes → (buf ws out ws' : List ℕ) (x : End) → RanIs bytes 10 scissor mode address buf ws out ws' x → x.verdict ≡ verdict.Finished
    → Whole (request_of bytes 10 scissor mode address) (entries_from x.entries out)
ran_whole bytes scissor mode address b buf ws out ws' x ran f =
    let q = request_of bytes 10 scissor mode address in
    rw (ran.end, ran.buffer) (ran_words_whole q refl b buf ws (sym (ap (λ (e : End). e.verdict) ran.end) ∙ f))

-- ---- the words that the exported functions leave

finished_by : (v : Verdict) → verdict_number v ≡ 0 → v ≡ verdict.Finished
finished_by v e = sym (verdict_back v) ∙ ap verdict_from e

-- where `visor_run` answers 0 and the end's verdict is 0: by the entries that its end counts
pub host_whole : (object request bank plan end : List ℕ) → (host_request object request).opcode ≡ 10 → Bytes (host_request object request).bytes → (host_run object request bank plan end).answer ≡ 0 → get_or (host_run object request bank plan end).end 0 0 ≡ 0
    → Whole (host_request object request) (entries_from (get_or (host_run object request bank plan end).end 1 0) (host_run object request bank plan end).plan)
unfolding host_run end_numbers
host_whole object request bank plan end o b = by (eqb (length request) 7 && (eqb (length bank) 136 && eqb (length end) 4))
  where
    q : Request
    q = host_request object request

    by : (t : Bool) → (cond t (ran_left (run_words (plan_of q) plan bank)) (left 1 bank plan end)).answer ≡ 0 → get_or (cond t (ran_left (run_words (plan_of q) plan bank)) (left 1 bank plan end)).end 0 0 ≡ 0
        → Whole q (entries_from (get_or (cond t (ran_left (run_words (plan_of q) plan bank)) (left 1 bank plan end)).end 1 0) (cond t (ran_left (run_words (plan_of q) plan bank)) (left 1 bank plan end)).plan)
    by true a v = ran_words_whole q o b plan bank (finished_by (run_words (plan_of q) plan bank).end.verdict v)
    by false a v = absurd (omega arith)

-- an entry's words are no end's
no_end : (e : Entry) → eqb (get_or (entry_words e) 0 0) 9 ≡ false
unfolding entry_words
no_end (Image fmt siz width address) = refl
no_end (Tile i fmt siz line tmem palette cms cmt masks maskt) = refl
no_end (Size i uls ult lrs lrt) = refl
no_end (Load i uls ult lrs lrt words rows stride start len) = refl
no_end (Rect i ulx uly lrx lry uls ult dsdx dtdy row) = refl

-- the first k answers' words have an end by 0 only where the plan is finished and all its entries are among them
words_ended : (k : ℕ) (es : List Entry) (e : End) → finishes (answered k es e) ≡ true → (verdict_number e.verdict ≡ 0) × (take k es ≡ es)
unfolding answered answers
words_ended zero es e h = absurd (true≢false (sym h))
words_ended (suc k) [] e h = (eqb-true (verdict_number e.verdict) 0 h, refl)
words_ended (suc k) (x ∷ es) e h = let r = words_ended k es e (rw (no_end x) at h) in (r.0, ap (λ (l : List Entry). x ∷ l) r.1)

module _ (object request ws ws₁ : List ℕ) (r : ℕ) (n : length request ≡ 7) (l : length ws ≡ 39) (start : StartIs object request ws r ws₁) where
  -- any number of calls of `visor_step`, one of which has answered the end of a finished plan
  pub host_steps_whole : (host_request object request).opcode ≡ 10 → Bytes (host_request object request).bytes → {ws' : List ℕ} {outs : List (List ℕ)} → Calls ws₁ outs ws' → finishes outs ≡ true
      → Whole (host_request object request) (entries_from (length outs) (joined outs))
  unfolding end_of
  host_steps_whole o b {outs = outs} calls f =
      let q = host_request object request in
      let p = plan_of q in
      let k = length outs in
      let a = plan_stepped object request ws ws₁ r n l start calls in
      let d = words_ended k p.entries (end_of p) (subst (λ (os : List (List ℕ)). finishes os ≡ true) a f) in
      let g = finished_by p.verdict d.0 in
      record { finished = g; is = ap (λ (os : List (List ℕ)). entries_from k (joined os)) a ∙ answers_read k p.entries (end_of p) ∙ ap (map reread) d.1 ∙ copy_reread q o b g }

-- ---- and so all of them meet each cell once, and show what the engine answers

module _ (q : Request) (o : q.opcode ≡ 10) (b : Bytes q.bytes) (es : List Entry) (whole : Whole q es) where
  pub whole_once : EveryCellOnce (frame_of 4 q) es
  unfolding plan_of
  whole_once = subst (EveryCellOnce (frame_of 4 q)) (sym whole.is) (every_cell_once 4 q o b whole.finished)

  pub whole_shows : Shows (frame_of 4 q) (sample_of 4 q.bytes q.scissor) es
  unfolding plan_of
  whole_shows = subst (Shows (frame_of 4 q) (sample_of 4 q.bytes q.scissor)) (sym whole.is) (shows_at 4 q o b whole.finished)
