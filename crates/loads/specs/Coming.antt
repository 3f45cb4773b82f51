-- What a scaled plan has still to come, at each place of a pass: the rest of `load_1cyc`, the rectangle, and the passes after it.
-- Assumes nothing.
use Rattle.std.specs.Prelude.{true, [], Option, Some, None, Result, Ok, Err, ℕ, ◌+◌, ◌*◌, ◌%◌, ◌^◌, ℤ, pos, ◌+ℤ◌, ◌-ℤ◌, ◌*ℤ◌}
use Rattle.signed.specs.Diff.{up}
use Rattle.signed.specs.Floor.{floor_div, modulo}
use Rattle.object.specs.declared.types.Verdict.{Verdict}
use Rattle.object.specs.declared.types.Verdict.TheVariants as verdict
use Rattle.plan.specs.declared.types.Entry.{Entry}
use Rattle.plan.specs.declared.types.Entry.TheVariants.{Image, Tile, Size}
use Rattle.plan.specs.declared.types.Scaled.{Scaled}
use Rattle.plan.specs.declared.types.Source.{Source}
use Rattle.plan.specs.declared.types.Walk.{Walk}
use Rattle.plan.specs.Out.{Out, Plan, ◌>>=◌, ◌>>◌, yield, emit, refuse, plan_out}
use Rattle.plan.specs.Load.{source_address}
use Rattle.plan.specs.Next.{ended}
use Rattle.plan.specs.Scaled.{size_of, field_of, tile7, load_part, load_of_rows, load_1cyc_tile, from_top, split_row, up_to_end, advance, load_1cyc, draw_of, rect_of, after_draw, passes}
use Rattle.loads.specs.declared.types.Part.{Part}
use Rattle.loads.specs.declared.types.Piece.{Piece}
use Rattle.loads.specs.declared.types.Piece.TheVariants as piece
use Rattle.loads.specs.declared.types.Due.{Due}
use Rattle.loads.specs.declared.types.Due.TheVariants as due
use Rattle.loads.specs.declared.types.Turn.{Turn}
use Rattle.loads.specs.declared.types.Turn.TheVariants as turn
use Rattle.loads.specs.declared.types.Stage.{Stage}
use Rattle.loads.specs.declared.types.Stage.TheVariants as stage
use Rattle.loads.specs.declared.types.Place.{Place}

-- where the plan stands, or its end
abbrev pub Reached : Type 0
Reached = Result (Stage × Place) Verdict

-- an address sum as a part of a plan
abbrev pub sum_out : Option ℕ → Out ℕ
sum_out (Some p) = yield p
sum_out None = refuse verdict.Address

abbrev pub moved_out : Option Source → Out Source
moved_out (Some s) = yield s
moved_out None = refuse verdict.Address

-- the passes from a walk, with fuel for every line left
unfoldable pub passes_of : Scaled → Walk → Out (Unit {0})
passes_of z w = passes (65 * up w.frame_remain) z w

-- R 175 `loadable`
abbrev pub loadable_of : Scaled → Source → ℤ
loadable_of z src = src.remain -ℤ pos z.split

-- R 199–207: the rows, destination and width of the two parts of the image's last row
abbrev pub split_rows : Scaled → Source → ℤ
split_rows z src = pos (modulo (loadable_of z src) 2 + 1)

abbrev pub split_from : Scaled → Source → ℤ
split_from z src = (loadable_of z src -ℤ pos (modulo (loadable_of z src) 2)) *ℤ pos z.line

abbrev pub split_width : Scaled → ℤ
split_width z = floor_div (pos z.stride -ℤ pos z.x_offset) 8

-- R 212–231: the rows before the image's last, and the move
unfoldable pub rest_out : Scaled → Source → (rows : ℤ) → Out Source
rest_out z src rows = up_to_end z src.pointer (loadable_of z src) >> advance z src rows

-- R 176–180: the move where no row wraps
unfoldable pub whole_out : Scaled → Source → (rows : ℤ) → Out Source
whole_out z src rows = source_address src.pointer (pos z.stride *ℤ rows) >>= (λ q. yield (record { pointer = q; remain = src.remain -ℤ rows }))

-- what of `load_1cyc` comes after a part; `spare` is the pointer of the last row's first part
unfoldable pub piece_out : Piece → Scaled → Source → (rows : ℤ) → (spare : ℕ) → Out Source
piece_out piece.Start z src rows spare = load_1cyc z src rows
piece_out piece.Top z src rows spare = split_row z src.pointer (loadable_of z src) >> rest_out z src rows
piece_out piece.SplitB z src rows spare = load_1cyc_tile z spare (split_rows z src) (split_from z src) (split_width z) true >> rest_out z src rows
piece_out piece.SplitA z src rows spare = rest_out z src rows
piece_out piece.Rest z src rows spare = advance z src rows

-- the rectangle, and the passes after it
unfoldable pub drawn : Scaled → Walk → (lines : ℕ) → Source → Out (Unit {0})
drawn z w lines source = emit (rect_of z w lines) >> passes_of z (after_draw z w (draw_of w) lines source)

-- a pass whose load has this to come
abbrev pub pass_out : Scaled → Walk → (lines : ℕ) → Out Source → Plan
pass_out z w lines o = plan_out (o >>= (λ source. drawn z w lines source))

-- R 336–351: tile 0, for the whole plan
abbrev pub tile0 : Scaled → Entry
tile0 z = Tile 0 z.fmt z.siz (z.line % 2 ^ 16) 0 z.palette 1 1 15 15

-- R 148: the texture image of a part
abbrev pub image_of : Scaled → ℕ → Entry
image_of z pointer = Image 0 (size_of z) (field_of z) pointer

-- a part's texture image and load, and the load alone
abbrev pub part_out : Scaled → Part → Out (Unit {0})
part_out z q = load_part z q.pointer q.rows q.width

abbrev pub rows_out : Scaled → Part → Out (Unit {0})
rows_out z q = load_of_rows z q.pointer q.rows q.width

-- R 176: the whole load, over the tile that stands, and what of `load_1cyc` comes after it
abbrev pub whole_part : Place → Part
whole_part p = record { pointer = p.walk.source.pointer; rows = p.rows +ℤ pos p.scaled.bilerp; destination = pos 0; width = pos p.scaled.line }

abbrev pub after_whole : Place → Out Source
after_whole p = whole_out p.scaled p.walk.source p.rows

abbrev pub after_part : Piece → Place → Out Source
after_part k p = piece_out k p.scaled p.walk.source p.rows p.spare

-- a pass at a place, whose load has this to come
abbrev pub pass_from : Place → Out Source → Plan
pass_from p o = pass_out p.scaled p.walk p.lines o

-- a part with its tile, and what comes after it
abbrev pub part_then : Piece → Place → (pointer : ℕ) → (rows destination width : ℤ) → Plan
part_then k p pointer rows destination width = pass_from p (load_1cyc_tile p.scaled pointer rows destination width true >> after_part k p)

-- R 184–195: the rows from the top, and what comes after them
abbrev pub top_then : Place → (load_rows : ℤ) → Plan
top_then p load_rows = pass_from p (from_top p.scaled p.walk.source.remain load_rows >> after_part piece.Top p)

-- R 206–210: the two parts of the image's last row, at these pointers, and what comes after them
abbrev pub parts_from : Place → (p1b p1a : ℕ) → Plan
parts_from p p1b p1a =
    pass_from p
    (load_1cyc_tile p.scaled p1b (split_rows p.scaled p.walk.source) (split_from p.scaled p.walk.source +ℤ split_width p.scaled) (pos p.scaled.line -ℤ split_width p.scaled) true
    >> piece_out piece.SplitB p.scaled p.walk.source p.rows p1a)

-- what is given before the next pass, and the walk before it
abbrev pub due_entry : Due → Place → Entry
due_entry due.Size p = Size 0 0 0 0 0
due_entry due.Rect p = rect_of p.scaled p.walk p.lines

abbrev pub due_walk : Due → Place → Walk
due_walk due.Size p = p.walk
due_walk due.Rect p = after_draw p.scaled p.walk (draw_of p.walk) p.lines p.next

-- the stage that gives what is due, and the stage that gives a turn's entry
abbrev pub due_stage : Due → Stage
due_stage due.Size = stage.Size
due_stage due.Rect = stage.Rect

abbrev pub stage_of : Turn → Stage
stage_of turn.Load = stage.Load
stage_of turn.Last = stage.Last
stage_of (turn.Pass d) = due_stage d

-- the entry of a turn, or the size that a refused load has set; and what comes after it
abbrev pub turn_out : Turn → Place → Out (Unit {0})
turn_out turn.Load p = rows_out p.scaled p.part
turn_out turn.Last p = emit (tile7 p.scaled (pos 0))
turn_out (turn.Pass d) p = emit (due_entry d p)

abbrev pub after_turn : Turn → Place → Plan
after_turn turn.Load p = pass_from p (after_part p.piece p)
after_turn turn.Last p = pass_from p (after_part piece.Rest p)
after_turn (turn.Pass d) p = plan_out (passes_of p.scaled (due_walk d p))

unfoldable pub coming_scaled : Stage → Place → Plan
coming_scaled stage.First p = plan_out (emit (tile7 p.scaled (pos 0)) >> (emit (tile0 p.scaled) >> (emit (Size 0 0 0 0 0) >> passes_of p.scaled p.walk)))
coming_scaled stage.Second p = plan_out (emit (tile0 p.scaled) >> (emit (Size 0 0 0 0 0) >> passes_of p.scaled p.walk))
coming_scaled stage.Whole p = pass_from p (part_out p.scaled (whole_part p) >> after_whole p)
coming_scaled stage.WholeLoad p = pass_from p (rows_out p.scaled (whole_part p) >> after_whole p)
coming_scaled stage.Tile p = pass_from p (emit (tile7 p.scaled p.part.destination) >> (part_out p.scaled p.part >> after_part p.piece p))
coming_scaled stage.Image p = pass_from p (part_out p.scaled p.part >> after_part p.piece p)
coming_scaled stage.Load p = pass_from p (rows_out p.scaled p.part >> after_part p.piece p)
coming_scaled stage.Last p = pass_from p (emit (tile7 p.scaled (pos 0)) >> advance p.scaled p.walk.source p.rows)
coming_scaled stage.Size p = plan_out (emit (Size 0 0 0 0 0) >> passes_of p.scaled p.walk)
coming_scaled stage.Rect p = plan_out (drawn p.scaled p.walk p.lines p.next)

abbrev pub coming_reached : Reached → Plan
coming_reached (Ok q) = coming_scaled q.0 q.1
coming_reached (Err v) = ended [] v
