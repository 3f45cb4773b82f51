-- The test of a scaled course's words is what a step asks of its place, and what was stored comes back.
-- Assumes nothing.
use mathlib.Core.Path.{◌≡◌, refl, sym, ap, ◌∙◌}
use mathlib.Core.Bool.{Bool, true, false, cond, ◌&&◌, ◌||◌}
use mathlib.Core.List.{List}
use Prim.Native.Nat.{ℕ, ◌+◌, ◌-◌, ◌*◌, ◌/◌, ◌%◌, ◌^◌, ◌≤◌, ◌<◌, min}
use native.Mathlib.Omega.{arith}
use borrow.Author.Tests.{leb-true, leb-false, le-leb, lt-leb, eqb-true, eq-eqb}
use lib.Dec.{leb, eqb}
use lib.IntN.{ℤ, pos, negsuc, ◌+ℤ◌, ◌-ℤ◌}
use lib.Signed.{◌≤ℤ◌, lt_z}
use lib.ListN.{get_or}
use Rattle.std.proofs.lemmas.Bool.{and_parts}
use Rattle.signed.specs.Diff.{up, dn, zdiff, zparts, zarith}
use Rattle.signed.specs.Floor.{floor_div, modulo}
use Rattle.measures.specs.Measure.{in_quarters, in_thirty_seconds}
use Rattle.measures.specs.Range.{Below}
use Rattle.words.specs.declared.count.Counts.{Counts}
use Rattle.plan.specs.declared.types.Walk.{Walk}
use Rattle.plan.specs.Sound.{SoundScaled}
use Rattle.plan.specs.Scaled.{draw_of, lines_of, after_draw}
use Rattle.loads.specs.declared.types.Part.{Part}
use Rattle.loads.specs.declared.types.Piece.{Piece}
use Rattle.loads.specs.declared.types.Piece.TheVariants as piece
use Rattle.loads.specs.declared.types.Stage.{Stage}
use Rattle.loads.specs.declared.types.Stage.TheVariants as stage
use Rattle.loads.specs.declared.types.Place.{Place}
use Rattle.loads.specs.Comes.{bounded, within}
use Rattle.loads.specs.Sound.{SoundWalk, SoundPass, SoundPart, SoundPiece, SoundRect, SoundStart, SoundAt}
use Rattle.stored_fields.proofs.Laws.{all_yes, all_no, each, within_yes, within_no, or_left, word_back, up_back, small_below, below_small, le_at, ge_at, at_le, at_ge, not_below, below_not, same_parts, some_dn}
use Rattle.stored_fields.specs.Signed.{signed_at}
use Rattle.stored_scaled.specs.Course.{piece_word, scaled_words, FitsPlace, piece_from, scaled_from, walk_from, place_from, scaled_tests, scaled_test, walk_tests, walk_test, due_of, pass_tests, pass_test, piece_tests, piece_test, rest_test, rect_test, at_start, at_pass, at_piece, at_rect, stage_test}

-- ---- what no pass changes, and the walk's part of a row

pub scaled_yes : (ws : List ℕ) → scaled_test ws ≡ true → SoundScaled (scaled_from ws)
unfolding scaled_test scaled_from
scaled_yes ws t =
    let h = all_yes (leb (get_or ws 5 0) 255) (scaled_tests ws) t in
    record {
      fmt = leb-true _ _ h.0;
      siz = leb-true _ _ h.1.0;
      palette = leb-true _ _ h.1.1.0;
      line = (within_yes _ _ _ h.1.1.1.0).0;
      line' = (within_yes _ _ _ h.1.1.1.0).1;
      image_rows = (within_yes _ _ _ h.1.1.1.1.0).0;
      image_rows' = (within_yes _ _ _ h.1.1.1.1.0).1;
      frame_rows = (within_yes _ _ _ h.1.1.1.1.1.0).0;
      frame_rows' = (within_yes _ _ _ h.1.1.1.1.1.0).1;
      stride = (within_yes _ _ _ h.1.1.1.1.1.1.0).0;
      stride' = (within_yes _ _ _ h.1.1.1.1.1.1.0).1;
      x_offset = leb-true _ _ h.1.1.1.1.1.1.1.0;
      source_rows = (within_yes _ _ _ h.1.1.1.1.1.1.1.1.0).0;
      source_rows' = (within_yes _ _ _ h.1.1.1.1.1.1.1.1.0).1;
      scale_h = (within_yes _ _ _ h.1.1.1.1.1.1.1.1.1.0).0;
      scale_h' = (within_yes _ _ _ h.1.1.1.1.1.1.1.1.1.0).1;
      scale_w' = leb-true _ _ h.1.1.1.1.1.1.1.1.1.1.0;
      bilerp = leb-true _ _ h.1.1.1.1.1.1.1.1.1.1.1.0;
      split = leb-true _ _ h.1.1.1.1.1.1.1.1.1.1.1.1.0;
      x = small_below 12 (get_or ws 9 0) (omega arith) (leb-true _ _ h.1.1.1.1.1.1.1.1.1.1.1.1.1.0);
      x_end = small_below 14 (get_or ws 10 0) (omega arith) (leb-true _ _ h.1.1.1.1.1.1.1.1.1.1.1.1.1.1.0);
    }

pub part_yes : (ws : List ℕ) → scaled_test ws ≡ true → Below 5 (walk_from ws).t.0
unfolding scaled_test walk_from
part_yes ws t = let h = all_yes (leb (get_or ws 5 0) 255) (scaled_tests ws) t in small_below 5 (get_or ws 26 0) (omega arith) (leb-true _ _ h.1.1.1.1.1.1.1.1.1.1.1.1.1.1.1)

pub scaled_no : (s : Stage) (p : Place) (n : Counts) → SoundScaled p.scaled → Below 5 p.walk.t.0 → scaled_test (scaled_words s p n) ≡ true
unfolding scaled_test scaled_words
scaled_no s p n h t = all_no (leb p.scaled.fmt 255) (scaled_tests (scaled_words s p n)) (le-leb _ _ h.fmt, (le-leb _ _ h.siz, (le-leb _ _ h.palette, (within_no _ _ _ h.line h.line', (within_no _ _ _ h.image_rows h.image_rows', (within_no _ _ _ h.frame_rows h.frame_rows', (within_no _ _ _ h.stride h.stride', (le-leb _ _ h.x_offset, (within_no _ _ _ h.source_rows h.source_rows', (within_no _ _ _ h.scale_h h.scale_h', (le-leb _ _ h.scale_w', (le-leb _ _ h.bilerp, (le-leb _ _ h.split, (le-leb _ _ (below_small h.x), (le-leb _ _ (below_small h.x_end), le-leb _ _ (below_small t))))))))))))))))

-- ---- a walk before a pass

pub walk_yes : (w : Walk) → Below 5 w.t.0 → walk_test w ≡ true → SoundWalk w
unfolding walk_test
walk_yes w b t =
    let h = all_yes (leb (up w.frame_remain) 1023) (walk_tests w) t in
    record {
      frame_y = leb-true _ _ h.1.1.0;
      lines = leb-true _ _ h.0;
      count = not_below w.count (eqb-true _ _ h.1.1.1.0);
      count' = le_at w.count (2 ^ 31) (leb-true _ _ h.1.0);
      slice_rows = ge_at w.slice_rows (2 ^ 27) (leb-true _ _ h.1.1.1.1.0);
      slice_rows' = le_at w.slice_rows 512 (leb-true _ _ h.1.1.1.1.1.0);
      t = b;
      low = leb-true _ _ h.1.1.1.1.1.1.0;
      high = leb-true _ _ h.1.1.1.1.1.1.1;
    }

walk_no : (w : Walk) → SoundWalk w → walk_test w ≡ true
unfolding walk_test
walk_no w s =
    all_no (leb (up w.frame_remain) 1023) (walk_tests w)
    (le-leb _ _ s.lines, (le-leb _ _ (at_le w.count (2 ^ 31) s.count'), (le-leb _ _ s.frame_y, (eq-eqb _ _ (below_not w.count s.count), (le-leb _ _ (at_ge w.slice_rows (2 ^ 27) s.slice_rows), (le-leb _ _ (at_le w.slice_rows 512 s.slice_rows'), (le-leb _ _ s.low, le-leb _ _ s.high)))))))

-- ---- a pass that draws: its lines, and its rows where another pass follows, are those of the walk

due_of_lem : (z : ℤ) → up (floor_div z 1024) ≡ up z / 1024
due_of_lem (pos n) = refl
due_of_lem (negsuc n) = refl

up_left : (r : ℤ) (draw : ℕ) → dn r ≡ 0 → up (r -ℤ pos draw) ≡ up r - draw
up_left r draw h = simp zdiff (simp zparts (omega zarith))

left_yes : (r : ℤ) (draw : ℕ) → dn r ≡ 0 → pos 1 ≤ℤ (r -ℤ pos draw) → draw < up r
left_yes r draw h l = let k = simp zdiff at l in omega zarith

left_no : (r : ℤ) (draw : ℕ) → draw < up r → dn r ≡ 0 → pos 1 ≤ℤ (r -ℤ pos draw)
left_no r draw l h = simp zdiff (omega zarith)

lines_by : (r : ℤ) (draw : ℕ) → dn r ≡ 0 → (t : Bool) → lt_z (r -ℤ pos draw) (pos 0) ≡ t → cond t (up (pos draw +ℤ (r -ℤ pos draw))) draw ≡ min draw (up r)
lines_by r draw h true e = let k = simp zdiff at e in simp zdiff (simp zparts (omega zarith))
lines_by r draw h false e = let k = simp zdiff at e in omega zarith

lines_of_lem : (w : Walk) (draw : ℕ) → 1 ≤ up w.frame_remain → lines_of w draw ≡ min draw (up w.frame_remain)
lines_of_lem w draw h = lines_by w.frame_remain draw (some_dn w.frame_remain h) _ refl

pub pass_yes : (p : Place) → SoundScaled p.scaled → SoundWalk p.walk → pass_test p ≡ true → SoundPass p
unfolding pass_test
pass_yes p z m t =
    let h = all_yes (leb 1 (due_of p.walk)) (pass_tests p) t in
    let w = p.walk in
    let r : 1 ≤ up w.frame_remain = leb-true _ _ h.1.0 in
    let d : draw_of w ≡ due_of w = due_of_lem w.count in
    record {
      scaled = z;
      walk = m;
      draws = rw d (leb-true _ _ h.0);
      lines = eqb-true _ _ h.1.1.0 ∙ sym (lines_of_lem w (due_of w) r) ∙ ap (lines_of w) (sym d);
      left = r;
      rows = ge_at p.rows (2 ^ 28) (leb-true _ _ h.1.1.1.0);
      rows' = le_at p.rows 512 (leb-true _ _ h.1.1.1.1.0);
      whole = λ l.
          let k = left_yes w.frame_remain (draw_of w) (some_dn w.frame_remain r) l in
          let e = and_parts _ _ (or_left _ _ h.1.1.1.1.1 (lt-leb _ _ (rw d at k))) in
          same_parts p.rows w.slice_rows (eqb-true _ _ e.0) (eqb-true _ _ e.1);
    }

whole_by : (p : Place) → SoundPass p → (t : Bool) → leb (up p.walk.frame_remain) (due_of p.walk) ≡ t
    → (t || (eqb (up p.rows) (up p.walk.slice_rows) && eqb (dn p.rows) (dn p.walk.slice_rows))) ≡ true
whole_by p s true e = refl
whole_by p s false e =
    let w = p.walk in
    let k = leb-false _ _ e in
    let q = s.whole (left_no w.frame_remain (draw_of w) (rw (due_of_lem w.count) k) (some_dn w.frame_remain s.left)) in
    each _ _ (eq-eqb _ _ (ap up q)) (eq-eqb _ _ (ap dn q))

pass_no : (p : Place) → SoundPass p → pass_test p ≡ true
unfolding pass_test
pass_no p s =
    let w = p.walk in
    let d : draw_of w ≡ due_of w = due_of_lem w.count in
    all_no (leb 1 (due_of w)) (pass_tests p) (
      le-leb _ _ (rw d at s.draws),
      (
        le-leb _ _ s.left,
        (
          eq-eqb _ _ (s.lines ∙ ap (lines_of w) d ∙ lines_of_lem w (due_of w) s.left),
          (le-leb _ _ (at_ge p.rows (2 ^ 28) s.rows), (le-leb _ _ (at_le p.rows 512 s.rows'), whole_by p s _ refl)),
        ),
      ),
    )

-- ---- the part that is given

piece_yes : (q : Part) → piece_test q ≡ true → SoundPart q
unfolding piece_test
piece_yes q t =
    let h = all_yes (leb (dn q.rows) (2 ^ 47)) (piece_tests q) t in
    record { rows = within 47 q.rows (leb-true _ _ h.1.0) (leb-true _ _ h.0); width = within 47 q.width (leb-true _ _ h.1.1.1) (leb-true _ _ h.1.1.0) }

piece_no : (q : Part) → SoundPart q → piece_test q ≡ true
unfolding piece_test
piece_no q s =
    let a = bounded 47 q.rows s.rows in
    let b = bounded 47 q.width s.width in
    all_no (leb (dn q.rows) (2 ^ 47)) (piece_tests q) (le-leb _ _ a.dn_le, (le-leb (up q.rows) (2 ^ 47 - 1) (omega arith), (le-leb _ _ b.dn_le, le-leb (up q.width) (2 ^ 47 - 1) (omega arith))))

-- ---- before the rectangle: where another pass follows, only the rows that are left in the image are not yet bounded

mod_is : (z : ℤ) → pos 0 ≤ℤ z → modulo z 1024 ≡ up z % 1024
mod_is (pos n) h = refl
mod_is (negsuc n) h = absurd h.le

module _ (p : Place) (s : SoundPass p) where
  abbrev after : Walk
  after = after_draw p.scaled p.walk (draw_of p.walk) p.lines p.next

  -- the numbers of the walk after it
  left_is : up after.frame_remain ≡ up p.walk.frame_remain - due_of p.walk
  left_is = up_left p.walk.frame_remain (draw_of p.walk) (some_dn p.walk.frame_remain s.left) ∙ ap (λ (d : ℕ). up p.walk.frame_remain - d) (due_of_lem p.walk.count)

  count_is : after.count ≡ pos (up p.walk.count % 1024 + p.scaled.frame_rows)
  count_is = ap (λ (m : ℕ). pos (m + p.scaled.frame_rows)) (mod_is p.walk.count s.walk.count)

  rect_after : rest_test p ≡ true → SoundWalk after
  rect_after t =
      let z = s.scaled in
      let w = s.walk in
      let e = and_parts (leb (dn p.next.remain + 1280000 * (up p.walk.frame_remain - due_of p.walk)) (2 ^ 40 + 20000 * ((up p.walk.count % 1024 + p.scaled.frame_rows) / 16))) (leb (up p.next.remain) (2 ^ 28)) t in
      let l = left_is in
      let n : p.lines ≡ min (due_of p.walk) (up p.walk.frame_remain) = s.lines ∙ ap (lines_of p.walk) (due_of_lem p.walk.count) ∙ lines_of_lem p.walk (due_of p.walk) s.left in
      let a : dn p.next.remain + 1280000 * (up p.walk.frame_remain - due_of p.walk) ≤ 2 ^ 40 + 20000 * ((up p.walk.count % 1024 + p.scaled.frame_rows) / 16) = leb-true _ _ e.0 in
      let b : up p.next.remain ≤ 2 ^ 28 = leb-true _ _ e.1 in
      let c = ap up count_is in
      let m : up p.walk.count % 1024 < 1024 = omega arith in
      record {
        frame_y = omega (arith, w.frame_y);
        lines = omega (arith, w.lines);
        count = rw count_is (omega zarith);
        count' = rw count_is (omega zarith);
        slice_rows = simp zdiff (omega zarith);
        slice_rows' = omega zarith;
        t = record { low = omega zarith; high = omega zarith };
        low = rw (l, c) a;
        high = omega arith;
      }

  after_rect : SoundWalk after → rest_test p ≡ true
  after_rect h =
      let a = rw (left_is, ap up count_is) at h.low in
      each _ _ (le-leb _ _ a) (le-leb (up p.next.remain) (2 ^ 28) (omega (arith, h.high)))

  pub rect_yes : rect_test p ≡ true → SoundRect p
  unfolding rect_test
  rect_yes t =
      record {
        pass = s;
        next = λ l.
            rect_after
            (or_left _ _ t (lt-leb _ _ (rw (due_of_lem p.walk.count) at (left_yes p.walk.frame_remain (draw_of p.walk) (some_dn p.walk.frame_remain s.left) l))));
      }

  rect_by : SoundRect p → (t : Bool) → leb (up p.walk.frame_remain) (due_of p.walk) ≡ t → (t || rest_test p) ≡ true
  rect_by h true e = refl
  rect_by h false e =
      after_rect (h.next (left_no p.walk.frame_remain (draw_of p.walk) (rw (due_of_lem p.walk.count) (leb-false _ _ e)) (some_dn p.walk.frame_remain s.left)))

  pub rect_no : SoundRect p → rect_test p ≡ true
  unfolding rect_test
  rect_no h = rect_by h _ refl

-- ---- by the stage

pub start_yes : (ws : List ℕ) → at_start ws ≡ true → SoundStart (place_from ws)
unfolding place_from
start_yes ws t = let e = and_parts _ _ t in record { scaled = scaled_yes ws e.0; walk = walk_yes (walk_from ws) (part_yes ws e.0) e.1 }

pub made_pass : (ws : List ℕ) → at_pass ws ≡ true → SoundPass (place_from ws)
made_pass ws t = let e = and_parts _ _ t in let s = start_yes ws e.0 in pass_yes (place_from ws) s.scaled s.walk e.1

made_piece : (ws : List ℕ) → at_piece ws ≡ true → SoundPiece (place_from ws)
made_piece ws t = let e = and_parts _ _ t in record { pass = made_pass ws e.0; part = piece_yes (place_from ws).part e.1 }

made_rect : (ws : List ℕ) → at_rect ws ≡ true → SoundRect (place_from ws)
made_rect ws t = let e = and_parts _ _ t in rect_yes (place_from ws) (made_pass ws e.0) e.1

pub stage_yes : (s : Stage) (ws : List ℕ) → stage_test s ws ≡ true → SoundAt s (place_from ws)
stage_yes stage.First ws t = start_yes ws t
stage_yes stage.Second ws t = start_yes ws t
stage_yes stage.Whole ws t = made_pass ws t
stage_yes stage.WholeLoad ws t = made_pass ws t
stage_yes stage.Tile ws t = made_piece ws t
stage_yes stage.Image ws t = made_piece ws t
stage_yes stage.Load ws t = made_piece ws t
stage_yes stage.Last ws t = made_pass ws t
stage_yes stage.Size ws t = start_yes ws t
stage_yes stage.Rect ws t = made_rect ws t

-- every stage has a sound walk, with what no pass changes
pub start_at_lem : (s : Stage) (p : Place) → SoundAt s p → SoundStart p
start_at_lem stage.First p h = h
start_at_lem stage.Second p h = h
start_at_lem stage.Whole p h = record { scaled = h.scaled; walk = h.walk }
start_at_lem stage.WholeLoad p h = record { scaled = h.scaled; walk = h.walk }
start_at_lem stage.Tile p h = record { scaled = h.pass.scaled; walk = h.pass.walk }
start_at_lem stage.Image p h = record { scaled = h.pass.scaled; walk = h.pass.walk }
start_at_lem stage.Load p h = record { scaled = h.pass.scaled; walk = h.pass.walk }
start_at_lem stage.Last p h = record { scaled = h.scaled; walk = h.walk }
start_at_lem stage.Size p h = h
start_at_lem stage.Rect p h = record { scaled = h.pass.scaled; walk = h.pass.walk }

pub few_lines : (s : Stage) (ws : List ℕ) → stage_test s ws ≡ true → up (signed_at ws 23) ≤ 1023
unfolding place_from walk_from
few_lines s ws t = (start_at_lem s (place_from ws) (stage_yes s ws t)).walk.lines

-- ---- what was stored comes back, and passes the test

piece_back : (k : Piece) → piece_from (piece_word k) ≡ k
piece_back piece.Start = refl
piece_back piece.Top = refl
piece_back piece.SplitB = refl
piece_back piece.SplitA = refl
piece_back piece.Rest = refl

module _ (s : Stage) (p : Place) (n : Counts) (f : FitsPlace p) (h : SoundStart p) where
  pub scaled_back : place_from (scaled_words s p n) ≡ p
  unfolding scaled_words place_from scaled_from walk_from
  scaled_back = λ j.
      record {
        scaled = record {
          fmt = p.scaled.fmt;
          siz = p.scaled.siz;
          palette = p.scaled.palette;
          address = p.scaled.address;
          x = in_quarters (up_back {k = 12} (omega arith) h.scaled.x j);
          x_end = in_quarters (up_back {k = 14} (omega arith) h.scaled.x_end j);
          scale_w = p.scaled.scale_w;
          scale_h = p.scaled.scale_h;
          bilerp = p.scaled.bilerp;
          split = p.scaled.split;
          source_rows = p.scaled.source_rows;
          line = p.scaled.line;
          image_rows = p.scaled.image_rows;
          frame_rows = p.scaled.frame_rows;
          stride = p.scaled.stride;
          x_offset = p.scaled.x_offset;
          s = in_thirty_seconds (word_back p.scaled.s.0 f.s j);
        };
        walk = record {
          frame_y = p.walk.frame_y;
          frame_remain = word_back p.walk.frame_remain f.remain j;
          count = word_back p.walk.count f.count j;
          slice_rows = word_back p.walk.slice_rows f.slice_rows j;
          t = in_thirty_seconds (up_back {k = 5} (omega arith) h.walk.t j);
          source = record { pointer = p.walk.source.pointer; remain = word_back p.walk.source.remain f.source j };
        };
        rows = word_back p.rows f.rows j;
        lines = p.lines;
        part = record { pointer = p.part.pointer; rows = word_back p.part.rows f.part_rows j; destination = word_back p.part.destination f.destination j; width = word_back p.part.width f.width j };
        spare = p.spare;
        next = record { pointer = p.next.pointer; remain = word_back p.next.remain f.next j };
        piece = piece_back p.piece j;
      }

  abbrev ws : List ℕ
  ws = scaled_words s p n

  walk_back : walk_from ws ≡ p.walk
  unfolding place_from
  walk_back = ap (λ (q : Place). q.walk) scaled_back

  no_start : at_start ws ≡ true
  no_start = each _ _ (scaled_no s p n h.scaled h.walk.t) (ap walk_test walk_back ∙ walk_no p.walk h.walk)

  no_pass : SoundPass p → at_pass ws ≡ true
  no_pass k = each _ _ no_start (ap pass_test scaled_back ∙ pass_no p k)

  no_piece : SoundPiece p → at_piece ws ≡ true
  no_piece k = each _ _ (no_pass k.pass) (ap (λ (q : Place). piece_test q.part) scaled_back ∙ piece_no p.part k.part)

  no_rect : SoundRect p → at_rect ws ≡ true
  no_rect k = each _ _ (no_pass k.pass) (ap rect_test scaled_back ∙ rect_no p k.pass k)

pub stage_no : (s : Stage) (p : Place) (n : Counts) → FitsPlace p → SoundAt s p → stage_test s (scaled_words s p n) ≡ true
stage_no stage.First p n f h = no_start stage.First p n f h
stage_no stage.Second p n f h = no_start stage.Second p n f h
stage_no stage.Whole p n f h = no_pass stage.Whole p n f (start_at_lem stage.Whole p h) h
stage_no stage.WholeLoad p n f h = no_pass stage.WholeLoad p n f (start_at_lem stage.WholeLoad p h) h
stage_no stage.Tile p n f h = no_piece stage.Tile p n f (start_at_lem stage.Tile p h) h
stage_no stage.Image p n f h = no_piece stage.Image p n f (start_at_lem stage.Image p h) h
stage_no stage.Load p n f h = no_piece stage.Load p n f (start_at_lem stage.Load p h) h
stage_no stage.Last p n f h = no_pass stage.Last p n f (start_at_lem stage.Last p h) h
stage_no stage.Size p n f h = no_start stage.Size p n f h
stage_no stage.Rect p n f h = no_rect stage.Rect p n f (start_at_lem stage.Rect p h) h
