-- What each stage gives: the entry is the first of what is to come, and what is reached is the rest.
-- Assumes nothing.
use Rattle.std.specs.Prelude.{◌≡◌, refl, Ok, Err, Option, Some, None, [], ◌∷◌, ℕ, suc, ◌+◌, ◌-◌, ◌*◌, ◌≤◌, ◌<◌, Bool, true, false, cond, eqb, ℤ, negsuc, ◌-ℤ◌, ◌*ℤ◌, ◌≤ℤ◌}
use Rattle.std.proofs.Common.{sym, subst, ◌∙◌, lit<, lit≤}
use Rattle.std.proofs.Math.Path.{ap}
use native.Mathlib.Omega.{arith}
use Rattle.signed.specs.Floor.{modulo_lt}
use Rattle.signed.specs.Cast.{u16}
use Rattle.std.proofs.Math.IntN.{pos}
use Rattle.signed.specs.Diff.{up, dn, zdiff, zparts, zarith}
use Rattle.measures.specs.Measure.{quarters, texels}
use Rattle.object.specs.declared.types.Verdict.TheVariants as verdict
use Rattle.plan.specs.declared.types.Entry.{Entry}
use Rattle.plan.specs.declared.types.Entry.TheVariants.{Size}
use Rattle.plan.specs.declared.types.Scaled.{Scaled}
use Rattle.plan.specs.declared.types.Source.{Source}
use Rattle.plan.specs.declared.types.Walk.{Walk}
use Rattle.plan.specs.declared.types.Clip.{Clip}
use Rattle.plan.specs.declared.types.First.{First}
use Rattle.plan.specs.Out.{Out, ◌>>◌, yield, refuse, emit, plan_out}
use Rattle.plan.specs.Out.Out.{go, stop}
use Rattle.plan.specs.Load.{load_out, load_tile, source_address}
use Rattle.plan.specs.Next.{cons, ended}
use Rattle.plan.specs.Sound.{SoundScaled, SoundFirst, entry_rows, entry_line, EntryIn, Narrow, Names}
use Rattle.load_tile.specs.declared.load.LoadRequest.{LoadRequest}
use Rattle.load_tile.specs.Load.{request_of, rows_in_request}
use Rattle.load_tile.specs.Rows.{rows_in}
use Rattle.plan.specs.Scaled.{size_of, field_of, lrs_of, lrt_of, tile7, load_part, load_of_rows, rect_of, advance, draw_of, left_after, after_draw, first_pass, passes, scaled_plan}
use Rattle.loads.specs.declared.types.Part.{Part}
use Rattle.loads.specs.declared.types.Piece.TheVariants as piece
use Rattle.loads.specs.declared.types.Due.{Due}
use Rattle.loads.specs.declared.types.Due.TheVariants as due
use Rattle.loads.specs.declared.types.Turn.{Turn}
use Rattle.loads.specs.declared.types.Turn.TheVariants as turn
use Rattle.loads.specs.declared.types.Stage.TheVariants as stage
use Rattle.loads.specs.declared.types.Place.{Place}
use Rattle.loads.specs.declared.types.Refused.{Refused}
use Rattle.loads.specs.Coming.{Reached, due_stage, stage_of, passes_of, piece_out, drawn, pass_from, tile0, image_of, part_out, rows_out, whole_part, after_part, after_whole, due_entry, due_walk, turn_out, after_turn, coming_scaled}
use Rattle.loads.specs.Loads.{emit_first, emit_plan, then_assoc, after_yield, after_refuse}
use Rattle.loads.specs.Sound.{SoundWalk, SoundPass, SoundPiece, SoundRect, SoundStart, ClipIn, SoundAt, Reaches, Gave, left_at, left_turn, left_reached, left_pass, after_piece}
use Rattle.loads.specs.Enter.{ended_as}

-- the rows and the line of each entry are few, and what a tile keeps of it is narrow
plain_in : EntryIn (Size 0 0 0 0 0)
plain_in = record { rows = omega arith; line = omega arith; narrow = (lit≤ tt, (lit≤ tt, (lit≤ tt, lit≤ tt))); names = refl }

size_le : (z : Scaled) → size_of z ≤ 255
size_le z = by (eqb z.siz 3)
  where
    by : (t : Bool) → cond t 3 2 ≤ 255
    by true = lit≤ tt
    by false = lit≤ tt

-- a number cut to 16 bits
cut_le : (x : ℤ) → u16 x ≤ 65535
cut_le x = let h = modulo_lt x {m = 65536} (lit< tt) in omega arith

tile7_in : (z : Scaled) (destination : ℤ) → EntryIn (tile7 z destination)
tile7_in z destination = record { rows = omega arith; line = omega arith; narrow = (lit≤ tt, (size_le z, (omega arith, (cut_le destination, (lit≤ tt, (lit≤ tt, (lit≤ tt, (lit≤ tt, lit≤ tt)))))))); names = refl }

tile0_in : (z : Scaled) → SoundScaled z → EntryIn (tile0 z)
tile0_in z h = record { rows = omega arith; line = omega arith; narrow = (h.fmt, (omega (arith, h.siz), (omega arith, (lit≤ tt, (h.palette, (lit≤ tt, (lit≤ tt, (lit≤ tt, lit≤ tt)))))))); names = refl }

image_in : (z : Scaled) (pointer : ℕ) → EntryIn (image_of z pointer)
image_in z pointer = record { rows = omega arith; line = omega arith; narrow = tt; names = tt }

rect_in : (z : Scaled) (w : Walk) (lines : ℕ) → EntryIn (rect_of z w lines)
rect_in z w lines = record { rows = omega arith; line = omega arith; narrow = tt; names = tt }

-- the first entry's rows and line, and that it is narrow, as the size that a refused load has set
abbrev first_rows : Out (Unit {0}) → ℕ
first_rows (go [] u) = 0
first_rows (go (e ∷ es) u) = entry_rows e
first_rows (stop es l v) = 0

abbrev first_line : Out (Unit {0}) → ℕ
first_line (go [] u) = 0
first_line (go (e ∷ es) u) = entry_line e
first_line (stop es l v) = 0

abbrev FirstNarrow : Out (Unit {0}) → Type 0
FirstNarrow (go [] u) = Unit {0}
FirstNarrow (go (e ∷ es) u) = Narrow e
FirstNarrow (stop es [] v) = Unit {0}
FirstNarrow (stop es (e ∷ l) v) = Narrow e

abbrev FirstNames : Out (Unit {0}) → Type 0
FirstNames (go [] u) = Unit {0}
FirstNames (go (e ∷ es) u) = Names e
FirstNames (stop es l v) = Unit {0}

asked_rows : (q : Option LoadRequest) (i uls ult lrs lrt : ℕ) → first_rows (load_out q i uls ult lrs lrt) ≡ rows_in_request q
unfolding load_out
asked_rows (Some r) i uls ult lrs lrt = refl
asked_rows None i uls ult lrs lrt = refl

asked_line : (q : Option LoadRequest) (i uls ult lrs lrt : ℕ) → first_line (load_out q i uls ult lrs lrt) ≡ 0
unfolding load_out
asked_line (Some r) i uls ult lrs lrt = refl
asked_line None i uls ult lrs lrt = refl

asked_narrow : (q : Option LoadRequest) (i lrs lrt : ℕ) → lrs ≤ 65535 → lrt ≤ 65535 → FirstNarrow (load_out q i 0 0 lrs lrt)
unfolding load_out
asked_narrow (Some r) i lrs lrt a b = (lit≤ tt, (lit≤ tt, (a, b)))
asked_narrow None i lrs lrt a b = (lit≤ tt, (lit≤ tt, (a, b)))

asked_names : (q : Option LoadRequest) (lrs lrt : ℕ) → FirstNames (load_out q 7 0 0 lrs lrt)
unfolding load_out
asked_names (Some r) lrs lrt = refl
asked_names None lrs lrt = tt

lower_lt : (z : Scaled) (rows : ℤ) → lrt_of z rows < 65536
lower_lt z rows = by (eqb z.siz 3)
  where
    by : (t : Bool) → cond t 0 (u16 (rows *ℤ pos 4 -ℤ pos 1)) < 65536
    by true = lit< tt
    by false = modulo_lt (rows *ℤ pos 4 -ℤ pos 1) {m = 65536} (lit< tt)

load_narrow : (z : Scaled) (pointer : ℕ) (rows width : ℤ) → FirstNarrow (load_of_rows z pointer rows width)
unfolding load_tile
load_narrow z pointer rows width =
    let h = lower_lt z rows in
    asked_narrow (request_of (size_of z) (field_of z) pointer 0 0 (lrs_of width) (lrt_of z rows)) 7 (lrs_of width) (lrt_of z rows) (cut_le ((width -ℤ pos 1) *ℤ pos 16)) (omega arith)

load_in : (z : Scaled) (pointer : ℕ) (rows width : ℤ) (e : Entry) → emit e ≡ load_of_rows z pointer rows width → EntryIn e
unfolding load_tile
load_in z pointer rows width e i =
    let q = request_of (size_of z) (field_of z) pointer 0 0 (lrs_of width) (lrt_of z rows) in
    let a = ap first_rows i ∙ asked_rows q 7 0 0 (lrs_of width) (lrt_of z rows) in
    let b = ap first_line i ∙ asked_line q 7 0 0 (lrs_of width) (lrt_of z rows) in
    record {
      rows = rw a (rows_in (size_of z) (field_of z) pointer 0 0 (lrs_of width) (lrt_of z rows) (lower_lt z rows));
      line = rw b (omega arith);
      narrow = subst FirstNarrow (sym i) (load_narrow z pointer rows width);
      names = subst FirstNames (sym i) (asked_names q (lrs_of width) (lrt_of z rows));
    }

-- a refused load is no entry
never : {e e' : Entry} → stop [] (e ∷ []) verdict.Address ≡ emit e' → ⊥
never i = let z : ◌≡◌ {A = ℕ} 0 1 = cc in omega arith

-- an entry in front of a pass
pass_first : (p : Place) (e : Entry) (o : Out Source) → pass_from p (emit e >> o) ≡ cons e (pass_from p o)
pass_first p e o = emit_first e o (λ source. drawn p.scaled p.walk p.lines source)

-- a part's texture image and its load, in front of what comes after it
module _ (p : Place) (q : Part) (o : Out Source) where
  image_first : pass_from p (part_out p.scaled q >> o) ≡ cons (image_of p.scaled q.pointer) (pass_from p (rows_out p.scaled q >> o))
  unfolding load_part
  image_first = ap (pass_from p) (then_assoc (emit (image_of p.scaled q.pointer)) (rows_out p.scaled q) o) ∙ pass_first p (image_of p.scaled q.pointer) (rows_out p.scaled q >> o)

  load_first : {n m : ℕ} (e : Entry) (r : Reached) → suc n ≤ m → emit e ≡ rows_out p.scaled q → Reaches (pass_from p o) n r → Gave (pass_from p (rows_out p.scaled q >> o)) m (Ok (e, r))
  load_first e r h i g = let l = g.left in (rw (← i) (pass_first p e o) ∙ ap (cons e) (sym g.is), (g.sound, (omega arith, load_in p.scaled q.pointer q.rows q.width e i)))

  load_refused : (e : Entry) → stop [] (e ∷ []) verdict.Address ≡ rows_out p.scaled q → (pass_from p (rows_out p.scaled q >> o) ≡ ended (e ∷ []) verdict.Address) × Narrow e
  load_refused e i = (rw (← i), subst FirstNarrow (sym i) (load_narrow p.scaled q.pointer q.rows q.width))

module _ (p : Place) where
  pub give_first : (e : Entry) → e ≡ tile7 p.scaled (pos 0) → SoundStart p → Gave (coming_scaled stage.First p) (left_at stage.First p) (Ok (e, Ok (stage.Second, p)))
  unfolding coming_scaled
  give_first e i h = (rw i (emit_plan (tile7 p.scaled (pos 0)) (emit (tile0 p.scaled) >> (emit (Size 0 0 0 0 0) >> passes_of p.scaled p.walk))), (h, (omega arith, rw i (tile7_in p.scaled (pos 0)))))

  pub give_second : (e : Entry) → e ≡ tile0 p.scaled → SoundStart p → Gave (coming_scaled stage.Second p) (left_at stage.Second p) (Ok (e, Ok (stage.Size, p)))
  unfolding coming_scaled
  give_second e i h = (rw i (emit_plan (tile0 p.scaled) (emit (Size 0 0 0 0 0) >> passes_of p.scaled p.walk)), (h, (omega arith, rw i (tile0_in p.scaled h.scaled))))

  give_size : (r : Reached) → Reaches (plan_out (passes_of p.scaled p.walk)) (14 * up p.walk.frame_remain) r → Gave (coming_scaled stage.Size p) (left_at stage.Size p) (Ok (Size 0 0 0 0 0, r))
  unfolding coming_scaled
  give_size r g = let l = g.left in (emit_plan (Size 0 0 0 0 0) (passes_of p.scaled p.walk) ∙ ap (cons (Size 0 0 0 0 0)) (sym g.is), (g.sound, (omega arith, plain_in)))

  pub give_whole : (e : Entry) → e ≡ image_of p.scaled p.walk.source.pointer → SoundPass p → Gave (coming_scaled stage.Whole p) (left_at stage.Whole p) (Ok (e, Ok (stage.WholeLoad, p)))
  unfolding coming_scaled
  give_whole e i h = (rw i (image_first p (whole_part p) (after_whole p)), (h, (omega arith, rw i (image_in p.scaled p.walk.source.pointer))))

  pub give_whole_load : (e : Entry) (r : Reached) → emit e ≡ rows_out p.scaled (whole_part p) → Reaches (pass_from p (after_whole p)) (1 + left_pass p) r → Gave (coming_scaled stage.WholeLoad p) (left_at stage.WholeLoad p) (Ok (e, r))
  unfolding coming_scaled
  give_whole_load e r i g = load_first p (whole_part p) (after_whole p) e r (omega arith) i g

  pub refuse_whole : (s : Refused) → stop [] (s.0 ∷ []) verdict.Address ≡ rows_out p.scaled (whole_part p) → Gave (coming_scaled stage.WholeLoad p) (left_at stage.WholeLoad p) (Err s)
  unfolding coming_scaled
  refuse_whole s i = load_refused p (whole_part p) (after_whole p) s.0 i

  pub give_tile : (e : Entry) → e ≡ tile7 p.scaled p.part.destination → SoundPiece p → Gave (coming_scaled stage.Tile p) (left_at stage.Tile p) (Ok (e, Ok (stage.Image, p)))
  unfolding coming_scaled
  give_tile e i h = (rw i (pass_first p (tile7 p.scaled p.part.destination) (part_out p.scaled p.part >> after_part p.piece p)), (h, (omega arith, rw i (tile7_in p.scaled p.part.destination))))

  pub give_image : (e : Entry) → e ≡ image_of p.scaled p.part.pointer → SoundPiece p → Gave (coming_scaled stage.Image p) (left_at stage.Image p) (Ok (e, Ok (stage.Load, p)))
  unfolding coming_scaled
  give_image e i h = (rw i (image_first p p.part (after_part p.piece p)), (h, (omega arith, rw i (image_in p.scaled p.part.pointer))))

  give_load : (e : Entry) (r : Reached) → emit e ≡ rows_out p.scaled p.part → Reaches (pass_from p (after_part p.piece p)) (after_piece p.piece + left_pass p) r → Gave (coming_scaled stage.Load p) (left_at stage.Load p) (Ok (e, r))
  unfolding coming_scaled
  give_load e r i g = load_first p p.part (after_part p.piece p) e r (omega arith) i g

  refuse_load : (s : Refused) → stop [] (s.0 ∷ []) verdict.Address ≡ rows_out p.scaled p.part → Gave (coming_scaled stage.Load p) (left_at stage.Load p) (Err s)
  unfolding coming_scaled
  refuse_load s i = load_refused p p.part (after_part p.piece p) s.0 i

  give_last : (e : Entry) (r : Reached) → e ≡ tile7 p.scaled (pos 0) → Reaches (pass_from p (after_part piece.Rest p)) (1 + left_pass p) r → Gave (coming_scaled stage.Last p) (left_at stage.Last p) (Ok (e, r))
  unfolding coming_scaled piece_out
  give_last e r i g = let l = g.left in (ap (λ (x : Entry). pass_from p (emit x >> advance p.scaled p.walk.source p.rows)) (sym i) ∙ pass_first p e (advance p.scaled p.walk.source p.rows) ∙ ap (cons e) (sym g.is), (g.sound, (omega arith, rw i (tile7_in p.scaled (pos 0)))))

  give_rect : (e : Entry) (n : Walk) (r : Reached) → e ≡ rect_of p.scaled p.walk p.lines → n ≡ after_draw p.scaled p.walk (draw_of p.walk) p.lines p.next → SoundRect p
      → Reaches (plan_out (passes_of p.scaled n)) (14 * up n.frame_remain) r → Gave (coming_scaled stage.Rect p) (left_at stage.Rect p) (Ok (e, r))
  unfolding coming_scaled drawn
  give_rect e n r i j h g =
      let l = g.left in
      let k = fewer p.walk.frame_remain (draw_of p.walk) h.pass.draws h.pass.left in
      (ap (λ (x : Entry). plan_out (emit x >> passes_of p.scaled (after_draw p.scaled p.walk (draw_of p.walk) p.lines p.next))) (sym i) ∙ ap (λ (w : Walk). plan_out (emit e >> passes_of p.scaled w)) (sym j) ∙ emit_plan e (passes_of p.scaled n) ∙ ap (cons e) (sym g.is), (g.sound, (less (left_reached r) (ap (λ (w : Walk). up w.frame_remain) j) k l, rw i (rect_in p.scaled p.walk p.lines))))
    where
      fewer : (v : ℤ) (d : ℕ) → 1 ≤ d → 1 ≤ up v → up (v -ℤ pos d) ≤ up v - 1
      fewer (pos n) d a b = by n d a b
        where
          by : (n d : ℕ) → 1 ≤ d → 1 ≤ n → up (pos n -ℤ pos d) ≤ n - 1
          by n d a b = simp zdiff (simp zparts (omega zarith))
      fewer (negsuc n) d a b = absurd (omega arith)

      less : (l : ℕ) → up n.frame_remain ≡ up (left_after p.walk (draw_of p.walk)) → up (left_after p.walk (draw_of p.walk)) ≤ up p.walk.frame_remain - 1 → l ≤ 14 * up n.frame_remain → suc l ≤ 1 + left_pass p
      less l a b c = omega arith

  -- the walk before the next pass is sound, where lines are left
  pub due_sound : (d : Due) → SoundAt (due_stage d) p → SoundScaled p.scaled × (pos 1 ≤ℤ (due_walk d p).frame_remain → SoundWalk (due_walk d p))
  due_sound due.Size h = (h.scaled, λ _. h.walk)
  due_sound due.Rect h = (h.pass.scaled, h.next)

  -- the size or the rectangle, and the pass after it
  give_pass : (d : Due) (e : Entry) (n : Walk) (r : Reached) → e ≡ due_entry d p → n ≡ due_walk d p → SoundAt (due_stage d) p → Reaches (plan_out (passes_of p.scaled n)) (14 * up n.frame_remain) r
      → Gave (coming_scaled (due_stage d) p) (left_at (due_stage d) p) (Ok (e, r))
  give_pass due.Size e n r i j h g = rw i (give_size r (rw j at g))
  give_pass due.Rect e n r i j h g = give_rect e n r i j h g

  -- a turn's entry, and what comes after it
  pub give_turn : (t : Turn) (e : Entry) (r : Reached) → SoundAt (stage_of t) p → emit e ≡ turn_out t p → Reaches (after_turn t p) (left_turn t p) r → Gave (coming_scaled (stage_of t) p) (left_at (stage_of t) p) (Ok (e, r))
  give_turn turn.Load e r h i g = give_load e r i g
  give_turn turn.Last e r h i g = give_last e r (cc) g
  give_turn (turn.Pass d) e r h i g = give_pass d e (due_walk d p) r (cc) refl h g

  pub refuse_turn : (t : Turn) (s : Refused) → stop [] (s.0 ∷ []) verdict.Address ≡ turn_out t p → Gave (coming_scaled (stage_of t) p) (left_at (stage_of t) p) (Err s)
  refuse_turn turn.Load s i = refuse_load s i
  refuse_turn turn.Last s i = absurd (never i)
  refuse_turn (turn.Pass d) s i = absurd (never i)

three : (a b c : Entry) (o : Out (Unit {0})) → (emit a >> emit b >> emit c >> o) ≡ (emit a >> (emit b >> (emit c >> o)))
three a b c (go es u) = refl
three a b c (stop es l v) = refl

-- the walk before the first pass
module _ (z : Scaled) (c : Clip) (f : First) (zs : SoundScaled z) (fs : SoundFirst z f) (cs : ClipIn c) where
  pub first_sound : (pointer : ℕ) → SoundWalk (first_pass z c f pointer)
  first_sound pointer =
      let a = fs.count in
      let n = fs.image_row in
      let k = fs.slice_rows in
      record {
        frame_y = omega (arith, cs.y, cs.height);
        lines = omega (arith, cs.height);
        count = omega zarith;
        count' = let b = fs.count' in omega zarith;
        slice_rows = fs.slice_rows;
        slice_rows' = fs.slice_rows';
        t = fs.t;
        low = rw (low_is z.source_rows f.image_row n) (omega (arith, cs.height));
        high = rw (high_is z.source_rows f.image_row n) (omega (zarith, zs.source_rows', k));
      }
    where
      low_is : (n r : ℕ) → r < n → dn (pos n -ℤ pos r) ≡ 0
      low_is n r h = simp zdiff (simp zparts (omega zarith))

      high_is : (n r : ℕ) → r < n → up (pos n -ℤ pos r) ≡ n - r
      high_is n r h = simp zdiff (simp zparts (omega zarith))

  -- R 321–352: three entries, then passes
  module _ (p : Place) (pointer : ℕ) (iz : p.scaled ≡ z) (iw : p.walk ≡ first_pass z c f pointer) (e : yield pointer ≡ source_address z.address (pos (z.stride * f.image_row + z.x_offset))) where
    pub start_at_lem : Reaches (plan_out (scaled_plan z c f)) 16384 (Ok (stage.First, p))
    unfolding coming_scaled scaled_plan passes_of
    start_at_lem =
        record {
          is = rw (iz, iw) (sym (ap plan_out (after_yield (source_address z.address (pos (z.stride * f.image_row + z.x_offset))) pointer _ e ∙ three (tile7 z (pos 0)) (tile0 z) (Size 0 0 0 0 0) (passes (65 * texels (quarters c.height)) z (first_pass z c f pointer)))));
          sound = record { scaled = rw iz zs; walk = rw iw (first_sound pointer) };
          left = rw iw (omega (arith, cs.height));
        }

  pub start_refused : refuse verdict.Address ≡ source_address z.address (pos (z.stride * f.image_row + z.x_offset)) → Reaches (plan_out (scaled_plan z c f)) 16384 (Err verdict.Address)
  unfolding scaled_plan
  start_refused e = ended_as 16384 (sym (ap plan_out (after_refuse (source_address z.address (pos (z.stride * f.image_row + z.x_offset))) verdict.Address _ e)))
