-- The branches of a load's definitions, each with the test that leads there.
-- Assumes nothing.
use Rattle.std.specs.Prelude.{◌≡◌, refl, Option, Bool, true, false, ◌||◌, ◌∷◌, ℕ, eqb, ℤ, negsuc, neg_ℤ, ◌+ℤ◌, ◌-ℤ◌, ◌*ℤ◌}
use Rattle.std.proofs.Common.{sym, ap, ◌∙◌, le-ltb, lt-ltb, leb-true, leb-false}
use Rattle.std.proofs.lemmas.Bool.{false≢true}
use Rattle.std.proofs.Math.IntN.{pos}
use Rattle.std.specs.Int.Signed.{le_z, lt_z}
use Rattle.signed.specs.Floor.{modulo}
use Rattle.object.specs.declared.types.Verdict.{Verdict}
use Rattle.object.specs.declared.types.Verdict.TheVariants as verdict
use Rattle.plan.specs.declared.types.Entry.{Entry}
use Rattle.plan.specs.declared.types.Scaled.{Scaled}
use Rattle.plan.specs.declared.types.Source.{Source}
use Rattle.plan.specs.Out.{Out, more, ◌>>=◌, ◌>>◌, yield, emit, refuse, plan_out}
use Rattle.plan.specs.Out.Out.{go, stop}
use Rattle.plan.specs.Load.{source_address}
use Rattle.plan.specs.Next.{cons}
use Rattle.plan.specs.Laws.{bind_assoc, more_nil}
use Rattle.plan.specs.Ties.{wrapped_by}
use Rattle.plan.specs.Scaled.{tile7, load_part, load_1cyc_tile, back, from_top, split_row, up_to_end, advance, load_1cyc}
use Rattle.loads.specs.Comes.{times_comm}
use Rattle.loads.specs.Coming.{sum_out, loadable_of, split_rows, split_from, split_width, rest_out, whole_out}

-- an entry in front, and a refusal
pub emit_first : {A : Type 0} (e : Entry) (o : Out A) (k : A → Out (Unit {0})) → plan_out ((emit e >> o) >>= k) ≡ cons e (plan_out (o >>= k))
emit_first e (go es a) k = by (k a)
  where
    by : (x : Out (Unit {0})) → plan_out (more (e ∷ es) x) ≡ cons e (plan_out (more es x))
    by (go fs u) = refl
    by (stop fs l v) = refl
emit_first e (stop es l v) k = refl

pub emit_plan : (e : Entry) (o : Out (Unit {0})) → plan_out (emit e >> o) ≡ cons e (plan_out o)
emit_plan e (go es u) = refl
emit_plan e (stop es l v) = refl

-- R 225–231, R 356–362
module _ (z : Scaled) (src : Source) (rows : ℤ) where
  pub advance_on : lt_z (pos 0) (src.remain -ℤ rows) ≡ true → advance z src rows ≡ (source_address src.pointer (pos z.stride *ℤ rows) >>= (λ p. yield (record { pointer = p; remain = src.remain -ℤ rows })))
  unfolding advance
  advance_on t = rw (t, advance)

  pub advance_wrap : lt_z (pos 0) (src.remain -ℤ rows) ≡ false
      → advance z src rows ≡ (source_address z.address (neg_ℤ (src.remain -ℤ rows) *ℤ pos z.stride +ℤ pos z.x_offset) >>= (λ p. yield (record { pointer = p; remain = src.remain -ℤ rows +ℤ pos z.source_rows })))
  unfolding advance
  advance_wrap t = rw (t, advance)

-- R 126–129
abbrev pub part_bad : (rows destination width : ℤ) → Bool
part_bad rows destination width = le_z rows (pos 0) || (le_z width (pos 0) || lt_z destination (pos 0))

module _ (z : Scaled) (pointer : ℕ) (rows destination width : ℤ) where
  pub part_refused : (set : Bool) → part_bad rows destination width ≡ true → load_1cyc_tile z pointer rows destination width set ≡ refuse verdict.Piece
  unfolding load_1cyc_tile
  part_refused set t = rw (t, load_1cyc_tile)

  pub part_given : part_bad rows destination width ≡ false → load_1cyc_tile z pointer rows destination width true ≡ (emit (tile7 z destination) >> load_part z pointer rows width)
  unfolding load_1cyc_tile
  part_given t = rw (t, load_1cyc_tile)

  pub part_whole : part_bad rows destination width ≡ false → load_1cyc_tile z pointer rows destination width false ≡ load_part z pointer rows width
  unfolding load_1cyc_tile
  part_whole t = rw (t, load_1cyc_tile) (more_nil (load_part z pointer rows width))

-- R 184–195
module _ (z : Scaled) (y2 load_rows : ℤ) where
  pub top_on : lt_z (pos 0) (load_rows -ℤ y2) ≡ true
      → from_top z y2 load_rows ≡ (source_address z.address (pos z.x_offset) >>= (λ p2. back z (modulo y2 2) p2 >>= (λ p2'. load_1cyc_tile z p2' (load_rows -ℤ y2 +ℤ pos (modulo y2 2)) ((y2 -ℤ pos (modulo y2 2)) *ℤ pos z.line) (pos z.line) true)))
  unfolding from_top
  top_on t = rw (t, from_top)

  pub top_off : lt_z (pos 0) (load_rows -ℤ y2) ≡ false → from_top z y2 load_rows ≡ yield tt
  unfolding from_top
  top_off t = rw (t, from_top)

-- R 196–211
module _ (z : Scaled) (src : Source) where
  pub split_off : eqb z.split 0 ≡ true → split_row z src.pointer (loadable_of z src) ≡ yield tt
  unfolding split_row
  split_off t = rw (t, split_row)

  pub split_on : eqb z.split 0 ≡ false
      → split_row z src.pointer (loadable_of z src) ≡ (source_address src.pointer (loadable_of z src *ℤ pos z.stride) >>= (λ p1. back z (modulo (loadable_of z src) 2) p1 >>= (λ p1a. back z (modulo (loadable_of z src) 2) z.address >>= (λ p1b.
      load_1cyc_tile z p1b (split_rows z src) (split_from z src +ℤ split_width z) (pos z.line -ℤ split_width z) true >> load_1cyc_tile z p1a (split_rows z src) (split_from z src) (split_width z) true))))
  unfolding split_row
  split_on t = rw (t, split_row)

  -- R 212–224
  pub rest_on : lt_z (pos 0) (loadable_of z src) ≡ true → up_to_end z src.pointer (loadable_of z src) ≡ load_1cyc_tile z src.pointer (loadable_of z src) (pos 0) (pos z.line) true
  unfolding up_to_end
  rest_on t = rw (t, up_to_end)

  pub rest_off : lt_z (pos 0) (loadable_of z src) ≡ false → up_to_end z src.pointer (loadable_of z src) ≡ emit (tile7 z (pos 0))
  unfolding up_to_end
  rest_off t = rw (t, up_to_end)

-- R 173–233
module _ (z : Scaled) (src : Source) (rows : ℤ) where
  pub load_whole : le_z (rows +ℤ pos z.bilerp) (loadable_of z src) ≡ true
      → load_1cyc z src rows ≡ (load_1cyc_tile z src.pointer (rows +ℤ pos z.bilerp) (pos 0) (pos z.line) false >> whole_out z src rows)
  unfolding load_1cyc whole_out
  load_whole t = rw (t, load_1cyc) (bind_assoc (load_1cyc_tile z src.pointer (rows +ℤ pos z.bilerp) (pos 0) (pos z.line) false) _ _)

  pub load_wraps : le_z (rows +ℤ pos z.bilerp) (loadable_of z src) ≡ false
      → load_1cyc z src rows ≡ (from_top z src.remain (rows +ℤ pos z.bilerp) >> (split_row z src.pointer (loadable_of z src) >> rest_out z src rows))
  unfolding load_1cyc rest_out
  load_wraps t = rw (t, load_1cyc) (bind_assoc (from_top z src.remain (rows +ℤ pos z.bilerp) >> split_row z src.pointer (loadable_of z src)) _ _ ∙ bind_assoc (from_top z src.remain (rows +ℤ pos z.bilerp)) _ _)

-- a sum's answer in its place
pub sum_then : {A : Type 0} (s : Option ℕ) (a : ℕ) (z : ℤ) (k : ℕ → Out A) → sum_out s ≡ source_address a z → (sum_out s >>= k) ≡ (source_address a z >>= k)
sum_then s a z k e = ap (λ (o : Out ℕ). o >>= k) e

module _ (z : Scaled) (src : Source) (rows remain : ℤ) (s : Option ℕ) (e : remain ≡ src.remain -ℤ rows) where
  pub advance_by_on : (bytes : ℤ) → bytes ≡ rows *ℤ pos z.stride → lt_z (pos 0) remain ≡ true → sum_out s ≡ source_address src.pointer bytes → (sum_out s >>= (λ p. yield (record { pointer = p; remain = remain }))) ≡ advance z src rows
  advance_by_on bytes b t h = sum_then s _ _ _ h ∙ rw (b, e, ← times_comm z.stride rows) (sym (advance_on z src rows (rw e at t)))

  pub advance_by_wrap : (back next : ℤ) → back ≡ (rows -ℤ src.remain) *ℤ pos z.stride +ℤ pos z.x_offset → next ≡ remain +ℤ pos z.source_rows → lt_z (pos 0) remain ≡ false → sum_out s ≡ source_address z.address back
      → (sum_out s >>= (λ p. yield (record { pointer = p; remain = next }))) ≡ advance z src rows
  advance_by_wrap back next b n t h = sum_then s _ _ _ h ∙ rw (b, n, e, wrapped_by src.remain rows) (sym (advance_wrap z src rows (rw e at t)))

module _ (rows destination width : ℤ) where
  pub bad_rows : le_z rows (pos 0) ≡ true → part_bad rows destination width ≡ true
  bad_rows t = rw t

  pub bad_width : le_z rows (pos 0) ≡ false → le_z width (pos 0) ≡ true → part_bad rows destination width ≡ true
  bad_width t u = rw (t, u)

  pub bad_place : le_z rows (pos 0) ≡ false → le_z width (pos 0) ≡ false → part_bad rows destination width ≡ lt_z destination (pos 0)
  bad_place t u = rw (t, u)

-- R 189–190, 201–203
module _ (z : Scaled) (odd p : ℕ) where
  pub back_none : eqb odd 0 ≡ true → back z odd p ≡ yield p
  back_none t = rw (t, back)

  pub back_one : eqb odd 0 ≡ false → back z odd p ≡ source_address p (neg_ℤ (pos z.stride))
  back_one t = rw (t, back)

-- what is given first stays first
pub then_assoc : {A B C : Type 0} (a : Out A) (b : Out B) (c : Out C) → ((a >> b) >> c) ≡ (a >> (b >> c))
then_assoc a b c = bind_assoc a (λ _. b) (λ _. c)

-- a test for at most 0, and its opposite
pub none_left : (v : ℤ) → le_z v (pos 0) ≡ true → lt_z (pos 0) v ≡ false
none_left (pos n) t = le-ltb 0 n (leb-true n 0 t)
none_left (negsuc n) t = refl

pub positive : (v : ℤ) → le_z v (pos 0) ≡ false → lt_z (pos 0) v ≡ true
positive (pos n) t = lt-ltb 0 n (leb-false n 0 t)
positive (negsuc n) t = absurd (false≢true (sym t))

-- going on with a value, and stopping
pub after_yield : {A B : Type 0} (o : Out A) (a : A) (k : A → Out B) → yield a ≡ o → (o >>= k) ≡ k a
after_yield {A} o a k e = ap (λ (x : Out A). x >>= k) (sym e) ∙ more_nil (k a)

pub after_refuse : {A B : Type 0} (o : Out A) (v : Verdict) (k : A → Out B) → refuse v ≡ o → (o >>= k) ≡ refuse v
after_refuse {A} o v k e = ap (λ (x : Out A). x >>= k) (sym e)
