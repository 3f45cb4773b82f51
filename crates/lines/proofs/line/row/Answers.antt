-- Each cell is put over the first of the blanks that are left; at the end the row stands, and its line end after it.
use Rattle.std.proofs.Common.{◌≡◌, ◌+◌, ◌≤◌, length, arith}
use Rattle.std.proofs.lemmas.List.{nil_from_length}
use Rattle.std.specs.Iterator.Adapters.{zip_first, zip_second}
use Rattle.std.specs.Slice.Iter.{iter_rest}
use Rattle.lines.specs.Lines.{total_of}
use Rattle.lines.proofs.Rows.{blanks_are, over_blanks, filled_start, filled_blank, filled_more, line_long, filled_line}
use Rattle.lines.proofs.line.row.Goals as goal

pub loop-width-init : goal.loop-width-init
loop-width-init c =
    let e = blanks_are c.args.widths c.args.out.now c.args.start c.total.result _ c.total.ensures c.blank.ensures in
    let f : iter_rest (zip_first c.into_iter-width-iterator.result) ≡ c.args.widths = cc in
    let g : iter_rest (zip_second c.into_iter-width-iterator.result) ≡ c.args.words = cc in
    rw (f, g) (filled_start c.args.widths c.args.words c.args.out.now c.args.start c.requires _ e (omega arith))

pub put-at-requires : goal.put-at-requires
put-at-requires c =
    let s = c.in-Some.ensures.steps in
    let h = rw (s.0, s.1) at c.loop-width.invariant in
    filled_blank _ _ _ c.args.start (omega arith) _ _ _ _ _ _ h

pub loop-width-preserved : goal.loop-width-preserved
loop-width-preserved c =
    let s = c.in-Some.ensures.steps in
    let h = rw (s.0, s.1) at c.loop-width.invariant in
    filled_more _ _ _ c.args.start (omega arith) _ _ _ _ _ _ h _ _ c.put-at.ensures

pub returns : goal.returns
returns c =
    let ws = c.args.widths in
    let xs = c.args.words in
    let l = c.loop-width in
    let i = l.width-iterator in
    let s = c.in-None.ensures.steps in
    let f = nil_from_length (iter_rest (zip_first i)) (omega (arith, l.invariant.even)) in
    let g = nil_from_length (iter_rest (zip_second i)) (omega (arith, l.invariant.even)) in
    let h = rw (f, g) at l.invariant in
    let e = blanks_are ws c.args.out.now c.args.start c.total.result _ c.total.ensures c.blank.ensures in
    let room : c.args.start + total_of ws + 1 ≤ length c.blank.new.out = omega arith in
    over_blanks ws xs c.args.out.now c.args.start c.requires _ e _ _ _ (line_long ws xs _ c.args.start room l.out l.at h) (filled_line ws xs _ c.args.start room l.out l.at h)
