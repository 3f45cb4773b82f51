-- The ranges that a scaled walk keeps, so that no sum overflows, and how many entries are still to come at the most.
-- Assumes nothing.
use Rattle.std.specs.Prelude.{◌≡◌, Result, Ok, Err, ℕ, suc, ◌+◌, ◌-◌, ◌*◌, ◌/◌, ◌^◌, ◌≤◌, true, false, cond, eqb, ℤ, pos, neg_ℤ, ◌+ℤ◌, ◌-ℤ◌, ◌*ℤ◌, ◌≤ℤ◌, [], ◌∷◌}
use Rattle.std.specs.Int.Signed.{lt_z, le_z}
use Rattle.signed.specs.Diff.{up, dn}
use Rattle.signed.specs.Floor.{modulo}
use Rattle.signed.specs.Cast.{min_z}
use Rattle.measures.specs.Measure.{quarters, whole}
use Rattle.measures.specs.Range.{Below, Within}
use Rattle.plan.specs.declared.types.Scaled.{Scaled}
use Rattle.plan.specs.declared.types.Source.{Source}
use Rattle.plan.specs.declared.types.Walk.{Walk}
use Rattle.object.specs.declared.types.Verdict.{Verdict}
use Rattle.object.specs.declared.types.Verdict.TheVariants as verdict
use Rattle.plan.specs.declared.types.Entry.{Entry}
use Rattle.plan.specs.declared.types.Clip.{Clip}
use Rattle.plan.specs.Next.{cons, ended}
use Rattle.plan.specs.Out.{Out, Plan, emit}
use Rattle.plan.specs.Out.Out.{stop}
use Rattle.plan.specs.Sound.{SoundScaled, EntryIn, Narrow}
use Rattle.plan.specs.Scaled.{draw_of, left_after, lines_of, after_draw}
use Rattle.loads.specs.declared.types.Part.{Part}
use Rattle.loads.specs.declared.types.Piece.{Piece}
use Rattle.loads.specs.declared.types.Piece.TheVariants as piece
use Rattle.loads.specs.declared.types.Choice.{Choice}
use Rattle.loads.specs.declared.types.Choice.TheVariants as choice
use Rattle.loads.specs.declared.types.Turn.{Turn}
use Rattle.loads.specs.declared.types.Turn.TheVariants as turn
use Rattle.loads.specs.declared.types.Stage.{Stage}
use Rattle.loads.specs.declared.types.Stage.TheVariants as stage
use Rattle.loads.specs.declared.types.Place.{Place}
use Rattle.loads.specs.declared.types.Split.{Split}
use Rattle.loads.specs.declared.types.Refused.{Refused}
use Rattle.loads.specs.Coming.{Reached, loadable_of, split_from, split_width, pass_from, after_part, due_walk, coming_reached}

-- a walk before a pass. Each pass lowers 64 × lines left − count / 16, and `remain` by 512 rows at the most: `low` ties the two together
pub record SoundWalk (w : Walk) : Type 0 where
  pub frame_y : w.frame_y + up w.frame_remain ≤ 4096
  pub lines : up w.frame_remain ≤ 1023
  pub count : pos 0 ≤ℤ w.count
  pub count' : w.count ≤ℤ pos (2 ^ 31)
  pub slice_rows : neg_ℤ (pos (2 ^ 27)) ≤ℤ w.slice_rows
  pub slice_rows' : w.slice_rows ≤ℤ pos 512
  pub t : Below 5 w.t.0
  pub low : dn w.source.remain + 1280000 * up w.frame_remain ≤ 2 ^ 40 + 20000 * (up w.count / 16)
  pub high : up w.source.remain + dn w.slice_rows ≤ 2 ^ 28

-- a walk with lines left
pub record Runs (z : Scaled) (w : Walk) : Type 0 where
  pub scaled : SoundScaled z
  pub walk : SoundWalk w
  pub left : pos 1 ≤ℤ w.frame_remain

-- R 354, 366–370 over their numbers
abbrev pub due_lines : ℤ → ℕ
due_lines count = up (whole count)

abbrev pub cut_lines : (draw : ℕ) → (left : ℤ) → ℕ
cut_lines draw left = cond (lt_z left (pos 0)) (up (pos draw +ℤ left)) draw

abbrev pub cut_rows : Scaled → (rows left : ℤ) → ℤ
cut_rows z rows left = cond (lt_z left (pos 0)) (min_z (rows +ℤ whole (left *ℤ pos z.scale_h.0) +ℤ pos 1) (pos z.image_rows)) rows

-- a pass that draws: its rows and lines are those of the walk
pub record SoundPass (p : Place) : Type 0 where
  pub scaled : SoundScaled p.scaled
  pub walk : SoundWalk p.walk
  pub draws : 1 ≤ draw_of p.walk
  pub lines : p.lines ≡ lines_of p.walk (draw_of p.walk)
  pub left : 1 ≤ up p.walk.frame_remain
  pub rows : neg_ℤ (pos (2 ^ 28)) ≤ℤ p.rows
  pub rows' : p.rows ≤ℤ pos 512
  pub whole : pos 1 ≤ℤ left_after p.walk (draw_of p.walk) → p.rows ≡ p.walk.slice_rows

-- the part that is given
pub record SoundPart (q : Part) : Type 0 where
  pub rows : Within 47 q.rows
  pub width : Within 47 q.width

-- the numbers of the image's last row
pub record SplitIs (z : Scaled) (src : Source) (s : Split) : Type 0 where
  pub odd : s.odd ≡ modulo (loadable_of z src) 2
  pub odd' : s.odd ≤ 1
  pub from : s.from ≡ split_from z src
  pub from' : Within 61 s.from
  pub width : s.width ≡ split_width z
  pub width' : Within 20 s.width

pub record SoundPiece (p : Place) : Type 0 where
  pub pass : SoundPass p
  pub part : SoundPart p.part

-- before the rectangle: where another pass follows, its walk is sound
pub record SoundRect (p : Place) : Type 0 where
  pub pass : SoundPass p
  pub next : pos 1 ≤ℤ left_after p.walk (draw_of p.walk) → SoundWalk (after_draw p.scaled p.walk (draw_of p.walk) p.lines p.next)

-- before the first pass
pub record SoundStart (p : Place) : Type 0 where
  pub scaled : SoundScaled p.scaled
  pub walk : SoundWalk p.walk

abbrev pub SoundAt : Stage → Place → Type 0
SoundAt stage.First p = SoundStart p
SoundAt stage.Second p = SoundStart p
SoundAt stage.Whole p = SoundPass p
SoundAt stage.WholeLoad p = SoundPass p
SoundAt stage.Tile p = SoundPiece p
SoundAt stage.Image p = SoundPiece p
SoundAt stage.Load p = SoundPiece p
SoundAt stage.Last p = SoundPass p
SoundAt stage.Size p = SoundStart p
SoundAt stage.Rect p = SoundRect p

abbrev pub SoundReached : Reached → Type 0
SoundReached (Ok q) = SoundAt q.0 q.1
SoundReached (Err v) = Unit {0}

-- the entries that come after a part, its pass's rectangle included, at the most
abbrev pub after_piece : Piece → ℕ
after_piece piece.Start = 13
after_piece piece.Top = 10
after_piece piece.SplitB = 7
after_piece piece.SplitA = 4
after_piece piece.Rest = 1

-- the entries of later passes, at the most
abbrev pub left_pass : Place → ℕ
left_pass p = 14 * (up p.walk.frame_remain - 1)

-- the entries that are still to come, at the most: 14 for each line that is left, and what the present pass has left
abbrev pub left_at : Stage → Place → ℕ
left_at stage.First p = 3 + 14 * up p.walk.frame_remain
left_at stage.Second p = 2 + 14 * up p.walk.frame_remain
left_at stage.Whole p = 3 + left_pass p
left_at stage.WholeLoad p = 2 + left_pass p
left_at stage.Tile p = 3 + after_piece p.piece + left_pass p
left_at stage.Image p = 2 + after_piece p.piece + left_pass p
left_at stage.Load p = 1 + after_piece p.piece + left_pass p
left_at stage.Last p = 2 + left_pass p
left_at stage.Size p = 1 + 14 * up p.walk.frame_remain
left_at stage.Rect p = 1 + left_pass p

-- the entries after a turn's, at the most
abbrev pub left_turn : Turn → Place → ℕ
left_turn turn.Load p = after_piece p.piece + left_pass p
left_turn turn.Last p = 1 + left_pass p
left_turn (turn.Pass d) p = 14 * up (due_walk d p).frame_remain

abbrev pub left_reached : Reached → ℕ
left_reached (Ok q) = left_at q.0 q.1
left_reached (Err v) = 0

-- r has just the plan to come, is sound, and gives at most n entries
pub record Reaches (plan : Plan) (n : ℕ) (r : Reached) : Type 0 where
  pub is : coming_reached r ≡ plan
  pub sound : SoundReached r
  pub left : left_reached r ≤ n

-- a pass that has just the plan to come after the part that is given, and gives at most n entries; or the end
abbrev pub Begins : Plan → ℕ → Result (Piece × Place) Verdict → Type 0
Begins plan n (Ok q) = SoundPass q.1 × ((pass_from q.1 (after_part q.0 q.1) ≡ plan) × (after_piece q.0 + left_pass q.1 ≤ n))
Begins plan n (Err v) = ended [] v ≡ plan

-- the part after which a choice is made, and the test that leads to it: R 175, 184, 196, 212
abbrev pub before : Choice → Piece
before choice.Whole = piece.Start
before choice.Top = piece.Start
before choice.SplitB = piece.Top
before choice.SplitA = piece.SplitB
before choice.Rest = piece.SplitA
before choice.Last = piece.SplitA
before choice.Move = piece.Rest

abbrev pub Meets : Choice → Place → Type 0
Meets choice.Whole p = le_z (p.rows +ℤ pos p.scaled.bilerp) (loadable_of p.scaled p.walk.source) ≡ true
Meets choice.Top p = (le_z (p.rows +ℤ pos p.scaled.bilerp) (loadable_of p.scaled p.walk.source) ≡ false) × (lt_z (pos 0) (p.rows +ℤ pos p.scaled.bilerp -ℤ p.walk.source.remain) ≡ true)
Meets choice.SplitB p = eqb p.scaled.split 0 ≡ false
Meets choice.SplitA p = Unit {0}
Meets choice.Rest p = lt_z (pos 0) (loadable_of p.scaled p.walk.source) ≡ true
Meets choice.Last p = lt_z (pos 0) (loadable_of p.scaled p.walk.source) ≡ false
Meets choice.Move p = Unit {0}

-- the choice after a part: what is to come is the same, and its test holds
pub record Chose (k : Piece) (p : Place) (c : Choice) : Type 0 where
  pub is : pass_from p (after_part (before c) p) ≡ pass_from p (after_part k p)
  pub left : after_piece (before c) ≤ after_piece k
  pub meets : Meets c p

-- a load's answer as a part of a plan
abbrev pub loaded_out : Result Entry Refused → Out (Unit {0})
loaded_out (Ok e) = emit e
loaded_out (Err r) = stop [] (r.0 ∷ []) verdict.Address

-- what a step answers is the first of the plan, and what it reaches is the rest
abbrev pub Gave : Plan → ℕ → Result (Entry × Reached) Refused → Type 0
Gave plan n (Ok q) = (plan ≡ cons q.0 (coming_reached q.1)) × (SoundReached q.1 × ((suc (left_reached q.1) ≤ n) × EntryIn q.0))
Gave plan n (Err r) = (plan ≡ ended (r.0 ∷ []) verdict.Address) × Narrow r.0

-- a clipped frame that is not empty
pub record ClipIn (c : Clip) : Type 0 where
  pub y : quarters c.y ≤ 8192
  pub height : quarters c.height ≤ 4095
