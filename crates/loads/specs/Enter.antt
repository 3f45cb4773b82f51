-- The parts of a load as places that are reached: what each has to come, its ranges, and how many entries at the most.
-- Assumes nothing.
use Rattle.std.specs.Prelude.{◌≡◌, Option, None, Result, Ok, Err, IsErrAnd, ok_or, true, [], ℕ, ◌+◌, ◌≤◌, eqb, ℤ, pos, ◌+ℤ◌, ◌-ℤ◌, ◌*ℤ◌}
use Rattle.std.proofs.Math.Path.{refl, sym, ap}
use Rattle.std.proofs.Common.{◌∙◌, arith}
use Rattle.std.proofs.Math.Bool.{false}
use Rattle.std.proofs.lemmas.Result.{err_from_is_err_and}
use Rattle.signed.specs.Floor.{modulo}
use Rattle.plan.specs.Next.{ended}
use Rattle.std.specs.Int.Signed.{lt_z, le_z}
use Rattle.object.specs.declared.types.Verdict.{Verdict}
use Rattle.object.specs.declared.types.Verdict.TheVariants as verdict
use Rattle.measures.specs.Range.{Within}
use Rattle.plan.specs.declared.types.Source.{Source}
use Rattle.plan.specs.Out.{Out, Plan, ◌>>◌, yield, refuse, emit, plan_out}
use Rattle.plan.specs.Laws.{more_nil}
use Rattle.plan.specs.Load.{source_address}
use Rattle.plan.specs.Scaled.{tile7, load_part, load_1cyc_tile, back, from_top, split_row, advance}
use Rattle.loads.specs.declared.types.Part.{Part}
use Rattle.loads.specs.declared.types.Piece.{Piece}
use Rattle.loads.specs.declared.types.Piece.TheVariants as piece
use Rattle.loads.specs.declared.types.Choice.{Choice}
use Rattle.loads.specs.declared.types.Choice.TheVariants as choice
use Rattle.loads.specs.declared.types.Stage.TheVariants as stage
use Rattle.loads.specs.declared.types.Place.{Place}
use Rattle.loads.specs.Coming.{Reached, loadable_of, split_rows, split_from, split_width, parts_from, top_then, rest_out, whole_out, piece_out, drawn, pass_from, part_then, whole_part, after_part, after_whole, coming_scaled}
use Rattle.loads.specs.Loads.{then_assoc, part_bad, part_refused, part_given, part_whole, split_on, split_off, rest_on, rest_off, top_on, top_off, load_whole, load_wraps}
use Rattle.loads.specs.Kept.{Left, advance_left, stay_left, draw_kept}
use Rattle.loads.specs.Sound.{SoundPass, SoundRect, Reaches, before, Meets, Chose, left_pass, after_piece}

-- the place with another part, and with another next source
abbrev pub with_part : Place → Piece → Part → Place
with_part p k q = record { scaled = p.scaled; walk = p.walk; rows = p.rows; lines = p.lines; part = q; spare = p.spare; next = p.next; piece = k }

abbrev pub with_next : Place → Source → Place
with_next p s = record { scaled = p.scaled; walk = p.walk; rows = p.rows; lines = p.lines; part = p.part; spare = p.spare; next = s; piece = p.piece }

abbrev pub with_spare : Place → ℕ → Place
with_spare p n = record { scaled = p.scaled; walk = p.walk; rows = p.rows; lines = p.lines; part = p.part; spare = n; next = p.next; piece = p.piece }

pub spare_sound : (p : Place) (n : ℕ) → SoundPass p → SoundPass (with_spare p n)
spare_sound p n h = record { scaled = h.scaled; walk = h.walk; draws = h.draws; lines = h.lines; left = h.left; rows = h.rows; rows' = h.rows'; whole = h.whole }

abbrev pub part_of : ℕ → (rows destination width : ℤ) → Part
part_of pointer rows destination width = record { pointer = pointer; rows = rows; destination = destination; width = width }

-- nothing but a verdict is to come
ended_is : {v : Verdict} (p : Place) (o : Out Source) (n : ℕ) → o ≡ refuse v → Reaches (pass_from p o) n (Err v)
ended_is p o n e = record { is = rw e; sound = tt; left = omega arith }

same_pass : (p : Place) (k : Piece) (q : Part) → SoundPass p → SoundPass (with_part p k q)
same_pass p k q h = record { scaled = h.scaled; walk = h.walk; draws = h.draws; lines = h.lines; left = h.left; rows = h.rows; rows' = h.rows'; whole = h.whole }

module _ (k : Piece) (p : Place) (pointer : ℕ) (rows destination width : ℤ) (h : SoundPass p) (r : Within 47 rows) (w : Within 47 width) where
  pub enter_refused : part_bad rows destination width ≡ true → Reaches (part_then k p pointer rows destination width) (3 + after_piece k + left_pass p) (Err verdict.Piece)
  enter_refused t = ended_is p _ _ (ap (λ (o : Out (Unit {0})). o >> after_part k p) (part_refused p.scaled pointer rows destination width true t))

  pub enter_given : part_bad rows destination width ≡ false → Reaches (part_then k p pointer rows destination width) (3 + after_piece k + left_pass p) (Ok (stage.Tile, with_part p k (part_of pointer rows destination width)))
  unfolding coming_scaled
  enter_given t =
      record {
        is = sym (ap (pass_from p) (ap (λ (o : Out (Unit {0})). o >> after_part k p) (part_given p.scaled pointer rows destination width t) ∙ then_assoc (emit (tile7 p.scaled destination)) (load_part p.scaled pointer rows width) (after_part k p)));
        sound = record { pass = same_pass p k (part_of pointer rows destination width) h; part = record { rows = r; width = w } };
        left = omega arith;
      }

-- R 175–176: no row wraps
module _ (p : Place) (h : SoundPass p) (m : Meets choice.Whole p) where
  pub whole_refused : part_bad (whole_part p).rows (pos 0) (whole_part p).width ≡ true → Reaches (pass_from p (after_part piece.Start p)) (13 + left_pass p) (Err verdict.Piece)
  unfolding piece_out
  whole_refused t =
      ended_is p _ _ (load_whole p.scaled p.walk.source p.rows m ∙ ap (λ (o : Out (Unit {0})). o >> after_whole p) (part_refused p.scaled (whole_part p).pointer (whole_part p).rows (pos 0) (whole_part p).width false t))

  pub whole_given : part_bad (whole_part p).rows (pos 0) (whole_part p).width ≡ false → Reaches (pass_from p (after_part piece.Start p)) (13 + left_pass p) (Ok (stage.Whole, p))
  unfolding coming_scaled piece_out
  whole_given t =
      record {
        is = sym (ap (pass_from p) (load_whole p.scaled p.walk.source p.rows m ∙ ap (λ (o : Out (Unit {0})). o >> after_whole p) (part_whole p.scaled (whole_part p).pointer (whole_part p).rows (pos 0) (whole_part p).width t)));
        sound = h;
        left = omega arith;
      }

next_sound : (p : Place) (next : Source) → SoundPass p → Left (p.walk.source.remain -ℤ p.rows) p.scaled.source_rows next.remain → SoundRect (with_next p next)
next_sound p next h l =
    record {
      pass = record { scaled = h.scaled; walk = h.walk; draws = h.draws; lines = h.lines; left = h.left; rows = h.rows; rows' = h.rows'; whole = h.whole };
      next = λ more. draw_kept p next h l more;
    }

-- the move after the loads, and the rectangle
module _ (p : Place) (h : SoundPass p) where
  pub moved_to : (next : Source) → yield next ≡ advance p.scaled p.walk.source p.rows → Reaches (pass_from p (after_part piece.Rest p)) (1 + left_pass p) (Ok (stage.Rect, with_next p next))
  unfolding coming_scaled piece_out
  moved_to next e =
      record {
        is = sym (rw (← e) (ap plan_out (more_nil (drawn p.scaled p.walk p.lines next))));
        sound = next_sound p next h (advance_left p.scaled p.walk.source p.rows next e);
        left = omega arith;
      }

  pub moved_refused : refuse verdict.Address ≡ advance p.scaled p.walk.source p.rows → Reaches (pass_from p (after_part piece.Rest p)) (1 + left_pass p) (Err verdict.Address)
  unfolding piece_out
  moved_refused e = ended_is p _ _ (sym e)

  pub on_to : (pointer : ℕ) (bytes : ℤ) → yield pointer ≡ source_address p.walk.source.pointer bytes → bytes ≡ pos p.scaled.stride *ℤ p.rows
      → Reaches (pass_from p (after_whole p)) (1 + left_pass p) (Ok (stage.Rect, with_next p (record { pointer = pointer; remain = p.walk.source.remain -ℤ p.rows })))
  unfolding coming_scaled whole_out
  on_to pointer bytes e b =
      record {
        is = sym (rw (← b, ← e) (ap plan_out (more_nil (drawn p.scaled p.walk p.lines (record { pointer = pointer; remain = p.walk.source.remain -ℤ p.rows })))));
        sound = next_sound p _ h (stay_left _ _ _ refl);
        left = omega arith;
      }

  pub on_refused : (bytes : ℤ) → refuse verdict.Address ≡ source_address p.walk.source.pointer bytes → bytes ≡ pos p.scaled.stride *ℤ p.rows → Reaches (pass_from p (after_whole p)) (1 + left_pass p) (Err verdict.Address)
  unfolding whole_out
  on_refused bytes e b = ended_is p (after_whole p) (1 + left_pass p) (rw (← b, ← e))

  -- no row before the image's last: the tile alone
  pub rest_none : lt_z (pos 0) (loadable_of p.scaled p.walk.source) ≡ false → Reaches (pass_from p (after_part piece.SplitA p)) (4 + left_pass p) (Ok (stage.Last, p))
  unfolding coming_scaled piece_out rest_out
  rest_none t =
      record {
        is = sym (ap (pass_from p) (ap (λ (o : Out (Unit {0})). o >> advance p.scaled p.walk.source p.rows) (rest_off p.scaled p.walk.source t)));
        sound = h;
        left = omega arith;
      }

-- the same of another way to say the plan, and of more entries
pub reaches_as : {plan plan' : Plan} {n m : ℕ} {r : Reached} → plan ≡ plan' → n ≤ m → Reaches plan n r → Reaches plan' m r
reaches_as e h g = let l = g.left in record { is = g.is ∙ e; sound = g.sound; left = omega arith }

pub ended_as : {v : Verdict} {plan : Plan} (n : ℕ) → ended [] v ≡ plan → Reaches plan n (Err v)
ended_as n e = record { is = e; sound = tt; left = omega arith }

-- what `?` passes on, where `ok_or` has found no value
pub none_ends : {T A : Type 0} {o : Option T} {v w : Verdict} {r : Result A Verdict} → o ≡ None → ◌≡◌ {A = Result T Verdict} (Err w) (ok_or o v) → IsErrAnd r (λ u. u ≡ w) → r ≡ Err v
none_ends {T} {v = v} {w} {r} i j k =
    let p = err_from_is_err_and r k in
    let e : ◌≡◌ {A = Result T Verdict} (Err w) (Err v) = rw i at j in
    cc (p.1, p.2)

-- the parts of a load, one after the other, as plans
module _ (p : Place) where
  -- R 212–213: the rows before the image's last
  pub rest_is : lt_z (pos 0) (loadable_of p.scaled p.walk.source) ≡ true → part_then piece.Rest p p.walk.source.pointer (loadable_of p.scaled p.walk.source) (pos 0) (pos p.scaled.line) ≡ pass_from p (after_part piece.SplitA p)
  unfolding piece_out rest_out
  rest_is t = sym (ap (pass_from p) (ap (λ (o : Out (Unit {0})). o >> advance p.scaled p.walk.source p.rows) (rest_on p.scaled p.walk.source t)))

  -- R 209: the first part of the last row
  pub split_a_is : part_then piece.SplitA p p.spare (split_rows p.scaled p.walk.source) (split_from p.scaled p.walk.source) (split_width p.scaled) ≡ pass_from p (after_part piece.SplitB p)
  unfolding piece_out
  split_a_is = refl

  -- R 196: no row runs over
  pub split_none : eqb p.scaled.split 0 ≡ true → pass_from p (after_part piece.SplitA p) ≡ pass_from p (after_part piece.Top p)
  unfolding piece_out
  split_none t = sym (ap (pass_from p) (ap (λ (o : Out (Unit {0})). o >> rest_out p.scaled p.walk.source p.rows) (split_off p.scaled p.walk.source t) ∙ more_nil (rest_out p.scaled p.walk.source p.rows)))

  -- R 197–203: the three addresses of the last row
  module _ (t : eqb p.scaled.split 0 ≡ false) (bytes : ℤ) (b : bytes ≡ loadable_of p.scaled p.walk.source *ℤ pos p.scaled.stride) (odd : ℕ) (o : odd ≡ modulo (loadable_of p.scaled p.walk.source) 2) where
    pub split_1 : refuse verdict.Address ≡ source_address p.walk.source.pointer bytes → ended [] verdict.Address ≡ pass_from p (after_part piece.Top p)
    unfolding piece_out
    split_1 e = rw (split_on p.scaled p.walk.source t, ← b, ← e)

    module _ (p1 : ℕ) (e : yield p1 ≡ source_address p.walk.source.pointer bytes) where
      pub split_2 : refuse verdict.Address ≡ back p.scaled odd p1 → ended [] verdict.Address ≡ pass_from p (after_part piece.Top p)
      unfolding piece_out
      split_2 f = rw (split_on p.scaled p.walk.source t, ← b, ← e, ← o, ← f)

      module _ (p1a : ℕ) (f : yield p1a ≡ back p.scaled odd p1) where
        pub split_3 : refuse verdict.Address ≡ back p.scaled odd p.scaled.address → ended [] verdict.Address ≡ pass_from p (after_part piece.Top p)
        unfolding piece_out
        split_3 g = rw (split_on p.scaled p.walk.source t, ← b, ← e, ← o, ← f, ← g)

        both_parts : (p1b : ℕ) → yield p1b ≡ back p.scaled odd p.scaled.address
            → split_row p.scaled p.walk.source.pointer (loadable_of p.scaled p.walk.source) ≡ (load_1cyc_tile p.scaled p1b (split_rows p.scaled p.walk.source) (split_from p.scaled p.walk.source +ℤ split_width p.scaled) (pos p.scaled.line -ℤ split_width p.scaled) true
            >> load_1cyc_tile p.scaled p1a (split_rows p.scaled p.walk.source) (split_from p.scaled p.walk.source) (split_width p.scaled) true)
        both_parts p1b g = rw (split_on p.scaled p.walk.source t, ← b, ← e, ← o, ← f, ← g) (more_nil _ ∙ more_nil _ ∙ more_nil _)

        pub split_4 : (p1b : ℕ) → yield p1b ≡ back p.scaled odd p.scaled.address → parts_from p p1b p1a ≡ pass_from p (after_part piece.Top p)
        unfolding piece_out
        split_4 p1b g = sym (ap (pass_from p) (ap (λ (x : Out (Unit {0})). x >> rest_out p.scaled p.walk.source p.rows) (both_parts p1b g) ∙ then_assoc (load_1cyc_tile p.scaled p1b (split_rows p.scaled p.walk.source) (split_from p.scaled p.walk.source +ℤ split_width p.scaled) (pos p.scaled.line -ℤ split_width p.scaled) true) (load_1cyc_tile p.scaled p1a (split_rows p.scaled p.walk.source) (split_from p.scaled p.walk.source) (split_width p.scaled) true) (rest_out p.scaled p.walk.source p.rows)))

  -- R 184: no rows from the top
  module _ (load_rows : ℤ) where
    pub top_none : lt_z (pos 0) (load_rows -ℤ p.walk.source.remain) ≡ false → pass_from p (after_part piece.Top p) ≡ top_then p load_rows
    top_none t = sym (ap (pass_from p) (ap (λ (o : Out (Unit {0})). o >> after_part piece.Top p) (top_off p.scaled p.walk.source.remain load_rows t) ∙ more_nil (after_part piece.Top p)))

    -- R 185–194: the addresses of the rows from the top
    module _ (t : lt_z (pos 0) (load_rows -ℤ p.walk.source.remain) ≡ true) (odd : ℕ) (o : odd ≡ modulo p.walk.source.remain 2) where
      pub top_1 : refuse verdict.Address ≡ source_address p.scaled.address (pos p.scaled.x_offset) → ended [] verdict.Address ≡ top_then p load_rows
      top_1 e = rw (top_on p.scaled p.walk.source.remain load_rows t, ← e)

      module _ (p2 : ℕ) (e : yield p2 ≡ source_address p.scaled.address (pos p.scaled.x_offset)) where
        pub top_2 : refuse verdict.Address ≡ back p.scaled odd p2 → ended [] verdict.Address ≡ top_then p load_rows
        top_2 f = rw (top_on p.scaled p.walk.source.remain load_rows t, ← e, ← o, ← f)

        from_top_lem : (p2' : ℕ) → yield p2' ≡ back p.scaled odd p2
            → from_top p.scaled p.walk.source.remain load_rows ≡ load_1cyc_tile p.scaled p2' (load_rows -ℤ p.walk.source.remain +ℤ pos odd) ((p.walk.source.remain -ℤ pos odd) *ℤ pos p.scaled.line) (pos p.scaled.line) true
        from_top_lem p2' f = rw (top_on p.scaled p.walk.source.remain load_rows t, ← e, ← o, ← f) (more_nil _ ∙ more_nil _)

        pub top_3 : (p2' : ℕ) → yield p2' ≡ back p.scaled odd p2
            → part_then piece.Top p p2' (load_rows -ℤ p.walk.source.remain +ℤ pos odd) ((p.walk.source.remain -ℤ pos odd) *ℤ pos p.scaled.line) (pos p.scaled.line) ≡ top_then p load_rows
        top_3 p2' f = sym (ap (pass_from p) (ap (λ (x : Out (Unit {0})). x >> after_part piece.Top p) (from_top_lem p2' f)))

  -- R 175: a row wraps
  pub wraps_is : le_z (p.rows +ℤ pos p.scaled.bilerp) (loadable_of p.scaled p.walk.source) ≡ false → top_then p (p.rows +ℤ pos p.scaled.bilerp) ≡ pass_from p (after_part piece.Start p)
  unfolding piece_out
  wraps_is t = sym (ap (pass_from p) (load_wraps p.scaled p.walk.source p.rows t))

-- each choice, with the test that leads to it
module _ (p : Place) where
  pub chose_whole : Meets choice.Whole p → Chose piece.Start p choice.Whole
  chose_whole t = record { is = refl; left = omega arith; meets = t }

  pub chose_top : Meets choice.Top p → Chose piece.Start p choice.Top
  chose_top t = record { is = refl; left = omega arith; meets = t }

  pub chose_split : Meets choice.SplitB p → Chose piece.Top p choice.SplitB
  chose_split t = record { is = refl; left = omega arith; meets = t }

  pub chose_split_a : Chose piece.SplitB p choice.SplitA
  chose_split_a = record { is = refl; left = omega arith; meets = tt }

  pub chose_rest : Meets choice.Rest p → Chose piece.SplitA p choice.Rest
  chose_rest t = record { is = refl; left = omega arith; meets = t }

  pub chose_last : Meets choice.Last p → Chose piece.SplitA p choice.Last
  chose_last t = record { is = refl; left = omega arith; meets = t }

  pub chose_move : Chose piece.Rest p choice.Move
  chose_move = record { is = refl; left = omega arith; meets = tt }

  module _ (c : Choice) where
    -- no row runs over: the choice after the last row
    pub chose_past : eqb p.scaled.split 0 ≡ true → Chose piece.SplitA p c → Chose piece.Top p c
    chose_past t h = let l = h.left in record { is = h.is ∙ split_none p t; left = omega arith; meets = h.meets }

    -- no rows from the top: the choice after them
    pub chose_under : le_z (p.rows +ℤ pos p.scaled.bilerp) (loadable_of p.scaled p.walk.source) ≡ false → lt_z (pos 0) (p.rows +ℤ pos p.scaled.bilerp -ℤ p.walk.source.remain) ≡ false → Chose piece.Top p c → Chose piece.Start p c
    chose_under t u h = let l = h.left in record { is = h.is ∙ top_none p (p.rows +ℤ pos p.scaled.bilerp) u ∙ wraps_is p t; left = omega arith; meets = h.meets }

    -- what a choice reaches is what comes after the part
    pub chose_reaches : {k : Piece} {r : Reached} → Chose k p c → Reaches (pass_from p (after_part (before c) p)) (after_piece (before c) + left_pass p) r → Reaches (pass_from p (after_part k p)) (after_piece k + left_pass p) r
    chose_reaches h g = let l = h.left in reaches_as h.is (omega arith) g
