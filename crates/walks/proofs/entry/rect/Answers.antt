-- Each number is the definition's; the lines of a pass are few.
use Rattle.std.proofs.Common.{arith, lit≤, pos, ◌-ℤ◌, ◌+◌, ◌≤◌, ◌<◌, ◌^◌}
use Rattle.std.specs.Int.{w64}
use mir.Val.{SFits}
use Rattle.signed.specs.Diff.{zarith}
use Rattle.signed.specs.Word.{rd, rdn}
use Rattle.measures.specs.Range.{Within, below_read}
use Rattle.loads.specs.declared.types.Place.{Place}
use Rattle.loads.specs.Comes.{fits, difference_in}
use Rattle.loads.specs.Kept.{remain_in}
use Rattle.loads.specs.Sound.{SoundPass}
use Rattle.loads.proofs.Read.{value, remain_is}
use Rattle.walks.specs.Going.{lines_low}
use Rattle.walks.proofs.entry.rect.Goals as goal

-- the rows above the source's row, and the line after the pass
rows_fit : (p : Place) → SoundPass p → SFits w64 (pos p.scaled.source_rows -ℤ p.walk.source.remain)
rows_fit p h =
    let n : Within 43 (pos p.scaled.source_rows) = record { low = omega zarith; high = omega (zarith, h.scaled.source_rows') } in
    fits 44 _ (lit≤ tt) (difference_in 43 _ p.walk.source.remain n (remain_in p.walk h.walk))

end_low : (p : Place) → SoundPass p → p.walk.frame_y + p.lines ≤ 2 ^ 22
end_low p h = omega (arith, h.walk.frame_y, lines_low p h)

source_low : (p : Place) → SoundPass p → p.scaled.source_rows < 2 ^ 63
source_low p h = omega (arith, h.scaled.source_rows')

pub overflow_sub-rows : goal.overflow_sub-rows
overflow_sub-rows c = rw (rdn c.args.p.scaled.source_rows (source_low c.args.p c.requires), remain_is c.args.p c.requires) (rows_fit c.args.p c.requires)

pub overflow_add-w : goal.overflow_add-w
overflow_add-w c = record { fits = omega (arith, end_low c.args.p c.requires) }

pub line_at-requires-2 : goal.line_at-requires-2
line_at-requires-2 c = omega (arith, end_low c.args.p c.requires)

pub returns : goal.returns
returns c =
    let p = c.args.p in
    let z = p.scaled in
    let h = c.requires in
    let s : SFits w64 z.s.0 = record { sfits = omega arith } in
    let us = value c.signed16.type_inv (rw (rd s) at c.signed16.ensures) in
    let ut = value c.signed16-2.type_inv (rw (below_read (lit≤ tt) h.walk.t) at c.signed16-2.ensures) in
    let dx = value c.signed16-3.type_inv (rw (rdn z.scale_w.0 (omega (arith, h.scaled.scale_w'))) at c.signed16-3.ensures) in
    let dy = value c.signed16-4.type_inv (rw (rdn z.scale_h.0 (omega (arith, h.scaled.scale_h'))) at c.signed16-4.ensures) in
    let row = rw (rdn z.source_rows (source_low p h), remain_is p h, rd (rows_fit p h)) at c.wrapped.ensures in
    rw (c.position.ensures, c.line_at.ensures, c.position-2.ensures, c.line_at-2.ensures, us, ut, dx, dy, row)
