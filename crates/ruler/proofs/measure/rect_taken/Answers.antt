-- The strip that draws next is the rectangle's.
use Rattle.std.proofs.Common.{arith, rules, sym, ◌∙◌}
use Rattle.signed.specs.Word.{rd, rk}
use Rattle.ruler.proofs.Ranges.{next_strip, place_fits, strip_read}
use Rattle.ruler.proofs.Rects.{rect_is}
use Rattle.ruler.proofs.measure.rect_taken.Goals as goal

pub distance-distance-requires : goal.distance-distance-requires
distance-distance-requires c =
    let i = c.s.invariant in
    let n = rw (c.in_ok-s.ensures.ok_part, sym c.s.view_is) at c.next_strip.ensures in
    rw (rd (place_fits i), rd c.ranges.ult) (next_strip c.requires.0 n, (omega (arith, i.earlier), (c.requires.1.1.0, c.requires.1.1.1)))

pub invariant_of-begun : goal.invariant_of-begun
invariant_of-begun c = (search (rules, strip_read), search rules)

pub returns : goal.returns
returns c =
    let n = rw (c.in_ok-s.ensures.ok_part, sym c.s.view_is) at c.next_strip.ensures in
    let d = c.distance-distance in
    let k = rd (place_fits c.s.invariant) in
    let e = rw (k, rd c.ranges.ult) at d.ensures in
    let r = rk d.result d.type_inv ∙ e in
    rect_is c.args.r c.args.p c.args.uly c.args.lry c.args.ult c.args.row _ _ _ c.requires.0 n (λ j. record { line = c.s.inside.earlier; strip = k j; distance = r j }) (rw (c.saturating_sub-lines.ensures, sym c.s.view_is) at c.drawn.ensures)
