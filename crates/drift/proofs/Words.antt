-- Demand 3 of a whole run: of the entries that the buffer's words read back as, which are the plan's, a rectangle's signed numbers by their 64 bits.
-- Assumes nothing.
use Rattle.std.specs.Prelude.{◌≡◌, refl, Bool, true, false, cond, List, [], ◌∷◌, ◌++◌, ℕ, zero, suc, ◌+◌, ◌-◌, ◌*◌, ◌/◌, ◌%◌, ◌<◌, ◌≤◌, ◌^◌, eqb, ltb, length, take, drop, map, ℤ, pos, ◌+ℤ◌, ◌-ℤ◌}
use Rattle.std.proofs.Common.{sym, ap, subst, ◌∙◌, append_assoc, arith, mod-eq_of_lt, take-append-drop, to_z}
use Rattle.std.proofs.lemmas.Bool.{eqb-false}
use Rattle.std.specs.Int.Signed.{lt_z}
use Rattle.std.specs.Int.{w64}
use Rattle.std.proofs.lemmas.Int.{to_z_pos}
use Rattle.signed.specs.Diff.{up, zdiff, zparts, zarith}
use Rattle.signed.specs.Floor.{floor_div, modulo_lt}
use Rattle.signed.specs.Cast.{i16, word}
use Rattle.plan.specs.Request.{Request}
use Rattle.object.specs.declared.types.ObjBg.{ObjBg}
use Rattle.measures.specs.Measure.{quarters, texels}
use Rattle.measures.specs.Range.{Below}
use Rattle.object.specs.Layout.{decode}
use Rattle.plan.specs.declared.types.Entry.{Entry}
use Rattle.plan.specs.Out.{Out, Plan, ◌>>=◌, yield, refuse, plan_out}
use Rattle.plan.specs.declared.types.Entry.TheVariants.{Image, Tile, Size, Load, Rect}
use Rattle.plan.specs.Out.Out.{go, stop}
use Rattle.tile.specs.declared.bank.Bank.{Bank}
use Rattle.plan.specs.Load.{source_address}
use Rattle.plan.specs.declared.types.Clip.{Clip}
use Rattle.plan.specs.declared.types.Start.{Start}
use Rattle.plan.specs.declared.types.Scaled.{Scaled}
use Rattle.plan.specs.declared.types.Walk.{Walk}
use Rattle.plan.specs.Scaled.{tile7, clip_of, start_of, scaled_of, first_of, first_pass, draw_of, advance, load_1cyc, passes, pass, scaled_plan, scaled_empty, slices_bad}
use Rattle.object.specs.declared.types.Verdict.TheVariants as verdict
use Rattle.object.specs.declared.types.Verdict.TheVariants.{Full}
use Rattle.checks.specs.Check.{Checked}
use Rattle.checks.specs.Check.{checked_of}
use Rattle.plan.specs.Whole.{plan_of, plan_with, checked_out, scaled_out}
use Rattle.plan.specs.Run.{Ran, entry_words, plan_words, cut_at, end_of, run_of}
use Rattle.plan.specs.Steps.{RunGives}
use Rattle.plan.specs.Laws.{entries_out, more_nil, passes_on, passes_end}
use Rattle.plan.specs.Demand.{Drift, drift_of, strips_of, Near, AllNear, Apt, ahead}
use Rattle.drift.specs.Plain.{Plain, Quiet, entries_more, quiet_address, quiet_advance, quiet_rows}
use Rattle.drift.proofs.Line.{small_at}
use Rattle.drift.specs.Walk.{pass_rows, pass_rect, pass_lines, pass_left, drawn_next, idle_next}
use Rattle.drift.proofs.Walk.{idle_is, draw_is, lines_apart}
use Rattle.drift.proofs.Demand3.{checked_scaled}
use Rattle.drift.proofs.Prefix.{cut_near}
use Rattle.drift.specs.Words.{entries_from, reread, Short, Drawn}

plain_drawn : (es fs : List Entry) → Plain es → Drawn fs → Drawn (es ++ fs)
plain_drawn [] fs p q = q
plain_drawn (Image fmt siz width address ∷ es) fs p q = plain_drawn es fs p q
plain_drawn (Tile i fmt siz line tmem palette cms cmt masks maskt ∷ es) fs p q = plain_drawn es fs p q
plain_drawn (Size i uls ult lrs lrt ∷ es) fs p q = plain_drawn es fs p q
plain_drawn (Load i uls ult lrs lrt words rows stride start len ∷ es) fs p q = plain_drawn es fs p q
plain_drawn (Rect i ulx uly lrx lry uls ult dsdx dtdy row ∷ es) fs p q = absurd p

drawn_alone : (es : List Entry) → Plain es → Drawn es
drawn_alone [] p = tt
drawn_alone (Image fmt siz width address ∷ es) p = drawn_alone es p
drawn_alone (Tile i fmt siz line tmem palette cms cmt masks maskt ∷ es) p = drawn_alone es p
drawn_alone (Size i uls ult lrs lrt ∷ es) p = drawn_alone es p
drawn_alone (Load i uls ult lrs lrt words rows stride start len ∷ es) p = drawn_alone es p
drawn_alone (Rect i ulx uly lrx lry uls ult dsdx dtdy row ∷ es) p = absurd p

drawn_bind : {A B : Type 0} {P : A → Type 0} (a : Out A) (k : A → Out B) → Quiet P a → ((x : A) → Drawn (entries_out (k x))) → Drawn (entries_out (a >>= k))
drawn_bind (go es x) k p f = rw (entries_more es (k x)) (plain_drawn es (entries_out (k x)) p.still.0 (f x))
drawn_bind (stop es l v) k p f = drawn_alone es p.still.0

short_t : (t : ℤ) → Below 5 t → i16 t ≡ to_z w64 (word (i16 t))
short_t t h = let l : up t < 32 = omega zarith in rw (small_at t h, mod-eq_of_lt {n = up t} {m = 2 ^ 64} (omega arith)) (sym (to_z_pos w64 (up t) (omega arith)))

-- a pass that draws has at least a line, and so has one that is cut
some_lines : (draw : ℕ) (remain : ℤ) (t : Bool) → lt_z (remain -ℤ pos draw) (pos 0) ≡ t → 1 ≤ draw → lt_z (pos 0) remain ≡ true → 0 < cond t (up (pos draw +ℤ (remain -ℤ pos draw))) draw
some_lines draw remain true e h s = simp zdiff (simp zparts (omega zarith))
some_lines draw remain false e h s = h

pub drawn_passes : (n : ℕ) (z : Scaled) (w : Walk) → Below 5 w.t.0 → Drawn (entries_out (passes n z w))
unfolding passes
drawn_passes zero z w h = tt
drawn_passes (suc n) z w h = by (lt_z (pos 0) w.frame_remain) refl (λ w'. drawn_passes n z w')
  where
    lined : ((w' : Walk) → Below 5 w'.t.0 → Drawn (entries_out (passes n z w'))) → lt_z (pos 0) w.frame_remain ≡ true → (t : Bool) → eqb (draw_of w) 0 ≡ t → Drawn (entries_out (pass z w >>= (λ next. passes n z next)))
    lined r g true t =
        rw (idle_is z w (λ next. passes n z next) t)
        (drawn_bind (advance z w.source w.slice_rows) _ (quiet_advance z w.source w.slice_rows) (λ s.
        rw (more_nil (passes n z (idle_next z w s))) (r (idle_next z w s) (omega arith))))
    lined r g false t =
        let d : 1 ≤ draw_of w = omega (arith, eqb-false (draw_of w) 0 t) in
        rw (draw_is z w (λ next. passes n z next) t)
        (drawn_bind (load_1cyc z w.source (pass_rows z w)) _ (quiet_rows z w.source (pass_rows z w)) (λ s.
        rw (entries_more (pass_rect z w ∷ []) (passes n z (drawn_next z w s)))
        ((rw (lines_apart w.frame_y (pass_lines w)) (some_lines (draw_of w) w.frame_remain (lt_z (pass_left w) (pos 0)) refl d g), short_t w.t.0 h), r (drawn_next z w s) (record { low = omega zarith; high = omega zarith }))))

    by : (t : Bool) → lt_z (pos 0) w.frame_remain ≡ t → ((w' : Walk) → Below 5 w'.t.0 → Drawn (entries_out (passes n z w'))) → Drawn (entries_out (passes (suc n) z w))
    by true t r = rw (passes_on n z w t) (lined r t (eqb (draw_of w) 0) refl)
    by false t r = rw (passes_end (suc n) z w t) tt

first_t : (z : Scaled) (i : Start) → Below 5 (first_of z i).t.0
unfolding first_of
first_t z i = let l = modulo_lt (floor_div (first_of z i).image_hidden 32) {m = 32} (omega arith) in record { low = omega zarith; high = omega zarith }

drawn_plan : (z : Scaled) (i : Start) (c : Clip) → Drawn (entries_out (scaled_plan z c (first_of z i)))
unfolding scaled_plan
drawn_plan z i c =
    drawn_bind (source_address z.address (pos (z.stride * (first_of z i).image_row + z.x_offset))) _ (quiet_address _ _) (λ p.
    rw (entries_more (tile7 z (pos 0) ∷ Tile 0 z.fmt z.siz (z.line % 2 ^ 16) 0 z.palette 1 1 15 15 ∷ Size 0 0 0 0 0 ∷ []) (passes (65 * texels (quarters c.height)) z (first_pass z c (first_of z i) p)))
    (drawn_passes (65 * texels (quarters c.height)) z (first_pass z c (first_of z i) p) (first_t z i)))

drawn_if : (t : Bool) (a b : Out (Unit {0})) → (t ≡ true → Drawn (entries_out a)) → (t ≡ false → Drawn (entries_out b)) → Drawn (entries_out {A = Unit {0}} (elim t [ true ↦ a | false ↦ b ]))
drawn_if true a b f g = f refl
drawn_if false a b f g = g refl

drawn_scaled : (bg : ObjBg) (q : Request) → Drawn (entries_out (scaled_out bg q))
unfolding scaled_out
drawn_scaled bg q =
    let c = clip_of bg q.scissor in
    let i = start_of bg c in
    let z = scaled_of bg q.mode q.address c i in
    drawn_if (scaled_empty c) (yield tt) (elim (slices_bad z) [ true ↦ refuse verdict.Slices | false ↦ scaled_plan z c (first_of z i) ]) (λ _. tt) (λ _. drawn_if (slices_bad z) (refuse verdict.Slices) (scaled_plan z c (first_of z i)) (λ _. tt) (λ _. drawn_plan z i c))

drawn_request : (q : Request) → q.opcode ≡ 9 → Drawn (entries_out (checked_out (checked_of 4 q.bytes q.opcode q.scissor) q))
unfolding checked_out
drawn_request q e = checked_scaled (λ (r : Checked). Drawn (entries_out (checked_out r q))) (λ v _. tt) q.bytes q.opcode q.scissor e (drawn_scaled (decode 4 false q.bytes) q)

plan_of_drawn : (o : Out (Unit {0})) → Drawn (entries_out o) → Drawn (plan_out o).entries
plan_of_drawn (go es u) h = h
plan_of_drawn (stop es l v) h = h

-- a scaled plan's rectangles draw lines, and their ult survive their words
pub drawn_entries : (q : Request) → q.opcode ≡ 9 → Drawn (plan_of q).entries
unfolding plan_of plan_with
drawn_entries q e = plan_of_drawn (checked_out (checked_of 4 q.bytes q.opcode q.scissor) q) (drawn_request q e)

-- ---- of a rectangle's ult alone

short_of : (es : List Entry) → Drawn es → Short es
short_of [] d = tt
short_of (Image fmt siz width address ∷ es) d = short_of es d
short_of (Tile i fmt siz line tmem palette cms cmt masks maskt ∷ es) d = short_of es d
short_of (Size i uls ult lrs lrt ∷ es) d = short_of es d
short_of (Load i uls ult lrs lrt words rows stride start len ∷ es) d = short_of es d
short_of (Rect i ulx uly lrx lry uls ult dsdx dtdy row ∷ es) d = (d.0.1, short_of es d.1)

plain_alone : (es : List Entry) → Plain es → Short es
plain_alone es p = short_of es (drawn_alone es p)

plain_short : (es fs : List Entry) → Plain es → Short fs → Short (es ++ fs)
plain_short [] fs p q = q
plain_short (Image fmt siz width address ∷ es) fs p q = plain_short es fs p q
plain_short (Tile i fmt siz line tmem palette cms cmt masks maskt ∷ es) fs p q = plain_short es fs p q
plain_short (Size i uls ult lrs lrt ∷ es) fs p q = plain_short es fs p q
plain_short (Load i uls ult lrs lrt words rows stride start len ∷ es) fs p q = plain_short es fs p q
plain_short (Rect i ulx uly lrx lry uls ult dsdx dtdy row ∷ es) fs p q = absurd p

short_prefix : (es fs : List Entry) → Short (es ++ fs) → Short es
short_prefix [] fs q = tt
short_prefix (Image fmt siz width address ∷ es) fs q = short_prefix es fs q
short_prefix (Tile i fmt siz line tmem palette cms cmt masks maskt ∷ es) fs q = short_prefix es fs q
short_prefix (Size i uls ult lrs lrt ∷ es) fs q = short_prefix es fs q
short_prefix (Load i uls ult lrs lrt words rows stride start len ∷ es) fs q = short_prefix es fs q
short_prefix (Rect i ulx uly lrx lry uls ult dsdx dtdy row ∷ es) fs q = (q.0, short_prefix es fs q.1)

short_bind : {A B : Type 0} {P : A → Type 0} (a : Out A) (k : A → Out B) → Quiet P a → ((x : A) → Short (entries_out (k x))) → Short (entries_out (a >>= k))
short_bind (go es x) k p f = rw (entries_more es (k x)) (plain_short es (entries_out (k x)) p.still.0 (f x))
short_bind (stop es l v) k p f = plain_alone es p.still.0

pub short_passes : (n : ℕ) (z : Scaled) (w : Walk) → Below 5 w.t.0 → Short (entries_out (passes n z w))
short_passes n z w h = short_of (entries_out (passes n z w)) (drawn_passes n z w h)

short_plan : (z : Scaled) (i : Start) (c : Clip) → Short (entries_out (scaled_plan z c (first_of z i)))
short_plan z i c = short_of (entries_out (scaled_plan z c (first_of z i))) (drawn_plan z i c)

short_if : (t : Bool) (a b : Out (Unit {0})) → (t ≡ true → Short (entries_out a)) → (t ≡ false → Short (entries_out b)) → Short (entries_out {A = Unit {0}} (elim t [ true ↦ a | false ↦ b ]))
short_if true a b f g = f refl
short_if false a b f g = g refl

short_scaled : (bg : ObjBg) (q : Request) → Short (entries_out (scaled_out bg q))
short_scaled bg q = short_of (entries_out (scaled_out bg q)) (drawn_scaled bg q)

short_request : (q : Request) → q.opcode ≡ 9 → Short (entries_out (checked_out (checked_of 4 q.bytes q.opcode q.scissor) q))
short_request q e = short_of (entries_out (checked_out (checked_of 4 q.bytes q.opcode q.scissor) q)) (drawn_request q e)

plan_of_lem : (o : Out (Unit {0})) → Short (entries_out o) → Short (plan_out o).entries
plan_of_lem (go es u) h = h
plan_of_lem (stop es l v) h = h

-- a scaled plan's ult survive their words
pub short_entries : (q : Request) → q.opcode ≡ 9 → Short (plan_of q).entries
unfolding plan_of plan_with
short_entries q e = plan_of_lem (checked_out (checked_of 4 q.bytes q.opcode q.scissor) q) (short_request q e)

-- ---- the words read back

pub entry_read : (n : ℕ) (e : Entry) (ws : List ℕ) → entries_from (suc n) (entry_words e ++ ws) ≡ reread e ∷ entries_from n ws
unfolding entries_from entry_words
entry_read n (Image fmt siz width address) ws = refl
entry_read n (Tile i fmt siz line tmem palette cms cmt masks maskt) ws = refl
entry_read n (Size i uls ult lrs lrt) ws = refl
entry_read n (Load i uls ult lrs lrt words rows stride start len) ws = refl
entry_read n (Rect i ulx uly lrx lry uls ult dsdx dtdy row) ws = refl

pub read_back : (es : List Entry) (ws : List ℕ) → entries_from (length es) (plan_words es ++ ws) ≡ map reread es
unfolding entries_from plan_words
read_back [] ws = refl
read_back (e ∷ es) ws =
    ap (entries_from (suc (length es))) (append_assoc (entry_words e) (plan_words es) ws) ∙ entry_read (length es) e (plan_words es ++ ws) ∙ ap (λ (l : List Entry). reread e ∷ l) (read_back es ws)

-- what is read back is near where the entries are
pub reread_near : (d : Drift) (n : ℕ) (ks : List ℤ) (es : List Entry) → Short es → AllNear d n ks es → AllNear d n ks (map reread es)
reread_near d n ks [] s h = tt
reread_near d n ks (Image fmt siz width address ∷ es) s h = reread_near d n ks es s h
reread_near d n ks (Tile i fmt siz line tmem palette cms cmt masks maskt ∷ es) s h = reread_near d n ks es s h
reread_near d n ks (Size i uls ult lrs lrt ∷ es) s h = reread_near d n ks es s h
reread_near d n ks (Load i uls ult lrs lrt words rows stride start len ∷ es) s h = reread_near d n ks es s h
reread_near d n [] (Rect i ulx uly lrx lry uls ult dsdx dtdy row ∷ es) s h = absurd h
reread_near d n (k ∷ ks) (Rect i ulx uly lrx lry uls ult dsdx dtdy row ∷ es) s h =
    ((λ j l. subst (λ (x : ℤ). Near d k (ahead d k row x n j)) s.0 (h.0 j l)), reread_near d (n + (lry - uly) / 4) ks es s.1 h.1)

pub short_first : (k : ℕ) (es : List Entry) → Short es → Short (take k es)
short_first k es s = short_prefix (take k es) (drop k es) (rw (take-append-drop k es) s)

cut_short : (n : ℕ) (p : Plan) → Short p.entries → Short (cut_at n p).entries
unfolding cut_at
cut_short n p h = by (ltb (n / 11) (length p.entries))
  where
    by : (t : Bool) → Short (cond t (record { entries = take (n / 11) p.entries; left = []; verdict = Full }) p).entries
    by true = short_first (n / 11) p.entries h
    by false = h

-- demand 3 of a whole run into any buffer, read back from the buffer and the end's count of entries alone
pub run_near : (q : Request) → Apt q → (buf : List ℕ) (b : Bank) → AllNear (drift_of q) 0 (strips_of (drift_of q)) (entries_from (run_of (plan_of q) buf b).end.entries (run_of (plan_of q) buf b).buffer)
unfolding run_of end_of
run_near q a buf b =
    let p = cut_at (length buf) (plan_of q) in
    rw (read_back p.entries (drop (11 * length p.entries) buf)) (reread_near (drift_of q) 0 (strips_of (drift_of q)) p.entries (cut_short (length buf) (plan_of q) (short_entries q a.scaled)) (cut_near q a (length buf)))

-- and of any run's definition that is this one
pub ran_near : (ran_of : Request → List ℕ → Bank → Ran) → RunGives ran_of → (q : Request) → Apt q → (buf : List ℕ) (b : Bank) → AllNear (drift_of q) 0 (strips_of (drift_of q)) (entries_from (ran_of q buf b).end.entries (ran_of q buf b).buffer)
ran_near ran_of law q a buf b = rw (law.ran q buf b) (run_near q a buf b)
