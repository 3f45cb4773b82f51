-- A scaled course as words, and the test of such words that is what a step asks of its place.
-- Assumes nothing.
use Rattle.std.specs.Prelude.{Bool, cond, ◌&&◌, ◌||◌, List, [], ◌∷◌, ℕ, ◌+◌, ◌-◌, ◌*◌, ◌/◌, ◌%◌, ◌^◌, min, leb, eqb, get_or}
use Rattle.std.specs.Int.{w64}
use Rattle.std.proofs.Common.{SFits}
use Rattle.signed.specs.Diff.{up, dn}
use Rattle.signed.specs.Cast.{word}
use Rattle.measures.specs.Measure.{quarters, thirty_seconds, in_quarters, in_thirty_seconds, in_scale}
use Rattle.words.specs.declared.count.Counts.{Counts}
use Rattle.plan.specs.declared.types.Scaled.{Scaled}
use Rattle.plan.specs.declared.types.Walk.{Walk}
use Rattle.loads.specs.declared.types.Part.{Part}
use Rattle.loads.specs.declared.types.Piece.{Piece}
use Rattle.loads.specs.declared.types.Piece.TheVariants as piece
use Rattle.loads.specs.declared.types.Stage.{Stage}
use Rattle.loads.specs.declared.types.Stage.TheVariants as stage
use Rattle.loads.specs.declared.types.Place.{Place}
use Rattle.stored_fields.specs.Test.{all_of, within}
use Rattle.stored_fields.specs.Signed.{signed_at}

-- ---- the words: the stage, the counts, and the place's numbers in their order, signed ones modulo 2^64

abbrev pub stage_word : Stage → ℕ
stage_word stage.First = 8
stage_word stage.Second = 9
stage_word stage.Whole = 10
stage_word stage.WholeLoad = 11
stage_word stage.Tile = 12
stage_word stage.Image = 13
stage_word stage.Load = 14
stage_word stage.Last = 15
stage_word stage.Size = 16
stage_word stage.Rect = 17

abbrev pub piece_word : Piece → ℕ
piece_word piece.Start = 0
piece_word piece.Top = 1
piece_word piece.SplitB = 2
piece_word piece.SplitA = 3
piece_word piece.Rest = 4

unfoldable pub scaled_words : Stage → Place → Counts → List ℕ
scaled_words s p n =
    stage_word s ∷ n.entries ∷ n.rectangles ∷ n.words ∷ n.line
    ∷ p.scaled.fmt ∷ p.scaled.siz ∷ p.scaled.palette ∷ p.scaled.address ∷ quarters p.scaled.x ∷ quarters p.scaled.x_end
    ∷ p.scaled.scale_w.0 ∷ p.scaled.scale_h.0 ∷ p.scaled.bilerp ∷ p.scaled.split ∷ p.scaled.source_rows ∷ p.scaled.line
    ∷ p.scaled.image_rows ∷ p.scaled.frame_rows ∷ p.scaled.stride ∷ p.scaled.x_offset ∷ word p.scaled.s.0
    ∷ p.walk.frame_y ∷ word p.walk.frame_remain ∷ word p.walk.count ∷ word p.walk.slice_rows ∷ thirty_seconds p.walk.t
    ∷ p.walk.source.pointer ∷ word p.walk.source.remain ∷ word p.rows ∷ p.lines
    ∷ p.part.pointer ∷ word p.part.rows ∷ word p.part.destination ∷ word p.part.width ∷ p.spare
    ∷ p.next.pointer ∷ word p.next.remain ∷ piece_word p.piece ∷ []

-- the signed numbers of a place have 64 bits
pub record FitsPlace (p : Place) : Type 0 where
  pub s : SFits w64 p.scaled.s.0
  pub remain : SFits w64 p.walk.frame_remain
  pub count : SFits w64 p.walk.count
  pub slice_rows : SFits w64 p.walk.slice_rows
  pub source : SFits w64 p.walk.source.remain
  pub rows : SFits w64 p.rows
  pub part_rows : SFits w64 p.part.rows
  pub destination : SFits w64 p.part.destination
  pub width : SFits w64 p.part.width
  pub next : SFits w64 p.next.remain

-- ---- out of the words

abbrev pub stage_from : ℕ → Stage
stage_from k = cond (eqb k 8) stage.First (cond (eqb k 9) stage.Second (cond (eqb k 10) stage.Whole (cond (eqb k 11) stage.WholeLoad (cond (eqb k 12) stage.Tile (cond (eqb k 13) stage.Image (cond (eqb k 14) stage.Load (cond (eqb k 15) stage.Last (cond (eqb k 16) stage.Size stage.Rect))))))))

abbrev pub piece_from : ℕ → Piece
piece_from k = cond (eqb k 0) piece.Start (cond (eqb k 1) piece.Top (cond (eqb k 2) piece.SplitB (cond (eqb k 3) piece.SplitA piece.Rest)))

unfoldable pub scaled_from : List ℕ → Scaled
scaled_from ws =
    record {
      fmt = get_or ws 5 0;
      siz = get_or ws 6 0;
      palette = get_or ws 7 0;
      address = get_or ws 8 0;
      x = in_quarters (signed_at ws 9);
      x_end = in_quarters (signed_at ws 10);
      scale_w = in_scale (get_or ws 11 0);
      scale_h = in_scale (get_or ws 12 0);
      bilerp = get_or ws 13 0;
      split = get_or ws 14 0;
      source_rows = get_or ws 15 0;
      line = get_or ws 16 0;
      image_rows = get_or ws 17 0;
      frame_rows = get_or ws 18 0;
      stride = get_or ws 19 0;
      x_offset = get_or ws 20 0;
      s = in_thirty_seconds (signed_at ws 21);
    }

unfoldable pub walk_from : List ℕ → Walk
walk_from ws =
    record {
      frame_y = get_or ws 22 0;
      frame_remain = signed_at ws 23;
      count = signed_at ws 24;
      slice_rows = signed_at ws 25;
      t = in_thirty_seconds (signed_at ws 26);
      source = record { pointer = get_or ws 27 0; remain = signed_at ws 28 };
    }

unfoldable pub place_from : List ℕ → Place
place_from ws =
    record {
      scaled = scaled_from ws;
      walk = walk_from ws;
      rows = signed_at ws 29;
      lines = get_or ws 30 0;
      part = record { pointer = get_or ws 31 0; rows = signed_at ws 32; destination = signed_at ws 33; width = signed_at ws 34 };
      spare = get_or ws 35 0;
      next = record { pointer = get_or ws 36 0; remain = signed_at ws 37 };
      piece = piece_from (get_or ws 38 0);
    }

-- ---- the test: what no pass changes, and the walk's part of a row; a walk before a pass; a pass that draws; the part that is given; before the rectangle

abbrev pub scaled_tests : List ℕ → List Bool
scaled_tests ws =
    leb (get_or ws 6 0) 3 ∷ leb (get_or ws 7 0) 255 ∷ within 1 512 (get_or ws 16 0) ∷ within 1 512 (get_or ws 17 0)
    ∷ within 16 (2 ^ 29) (get_or ws 18 0) ∷ within 8 65535 (get_or ws 19 0) ∷ leb (get_or ws 20 0) 65535
    ∷ within 1 16383 (get_or ws 15 0) ∷ within 1 65535 (get_or ws 12 0) ∷ leb (get_or ws 11 0) 65535
    ∷ leb (get_or ws 13 0) 1 ∷ leb (get_or ws 14 0) 1 ∷ leb (get_or ws 9 0) 4095 ∷ leb (get_or ws 10 0) 16383 ∷ leb (get_or ws 26 0) 31 ∷ []

unfoldable pub scaled_test : List ℕ → Bool
scaled_test ws = all_of (leb (get_or ws 5 0) 255) (scaled_tests ws)

abbrev pub walk_tests : Walk → List Bool
walk_tests w =
    leb (up w.count) (2 ^ 31) ∷ leb (w.frame_y + up w.frame_remain) 4096 ∷ eqb (dn w.count) 0 ∷ leb (dn w.slice_rows) (2 ^ 27) ∷ leb (up w.slice_rows) 512
    ∷ leb (dn w.source.remain + 1280000 * up w.frame_remain) (2 ^ 40 + 20000 * (up w.count / 16)) ∷ leb (up w.source.remain + dn w.slice_rows) (2 ^ 28) ∷ []

unfoldable pub walk_test : Walk → Bool
walk_test w = all_of (leb (up w.frame_remain) 1023) (walk_tests w)

abbrev pub due_of : Walk → ℕ
due_of w = up w.count / 1024

abbrev pub whole_test : Place → Bool
whole_test p = leb (up p.walk.frame_remain) (due_of p.walk) || (eqb (up p.rows) (up p.walk.slice_rows) && eqb (dn p.rows) (dn p.walk.slice_rows))

abbrev pub pass_tests : Place → List Bool
pass_tests p =
    leb 1 (up p.walk.frame_remain) ∷ eqb p.lines (min (due_of p.walk) (up p.walk.frame_remain)) ∷ leb (dn p.rows) (2 ^ 28) ∷ leb (up p.rows) 512 ∷ whole_test p ∷ []

unfoldable pub pass_test : Place → Bool
pass_test p = all_of (leb 1 (due_of p.walk)) (pass_tests p)

abbrev pub piece_tests : Part → List Bool
piece_tests q = leb (up q.rows) (2 ^ 47 - 1) ∷ leb (dn q.width) (2 ^ 47) ∷ leb (up q.width) (2 ^ 47 - 1) ∷ []

unfoldable pub piece_test : Part → Bool
piece_test q = all_of (leb (dn q.rows) (2 ^ 47)) (piece_tests q)

abbrev pub rest_test : Place → Bool
rest_test p =
    leb (dn p.next.remain + 1280000 * (up p.walk.frame_remain - due_of p.walk)) (2 ^ 40 + 20000 * ((up p.walk.count % 1024 + p.scaled.frame_rows) / 16))
    && leb (up p.next.remain) (2 ^ 28)

unfoldable pub rect_test : Place → Bool
rect_test p = leb (up p.walk.frame_remain) (due_of p.walk) || rest_test p

-- ---- and by the stage

abbrev pub at_start : List ℕ → Bool
at_start ws = scaled_test ws && walk_test (walk_from ws)

abbrev pub at_pass : List ℕ → Bool
at_pass ws = at_start ws && pass_test (place_from ws)

abbrev pub at_piece : List ℕ → Bool
at_piece ws = at_pass ws && piece_test (place_from ws).part

abbrev pub at_rect : List ℕ → Bool
at_rect ws = at_pass ws && rect_test (place_from ws)

abbrev pub stage_test : Stage → List ℕ → Bool
stage_test stage.First ws = at_start ws
stage_test stage.Second ws = at_start ws
stage_test stage.Whole ws = at_pass ws
stage_test stage.WholeLoad ws = at_pass ws
stage_test stage.Tile ws = at_piece ws
stage_test stage.Image ws = at_piece ws
stage_test stage.Load ws = at_piece ws
stage_test stage.Last ws = at_pass ws
stage_test stage.Size ws = at_start ws
stage_test stage.Rect ws = at_rect ws
