-- Field by field; signed numbers are read back.
use Rattle.std.proofs.Common.{refl, sym, subst, arith, ◌∙◌}
use Rattle.measures.specs.Range.{counted}
use Rattle.signed.specs.Word.{rd, rk}
use Rattle.ruler.specs.Ruler.{SoundRuler}
use Rattle.ruler.proofs.Ranges.{wide_fits}
use Rattle.ruler.proofs.Known.{rows_fit, count_fits}
use Rattle.ruler.proofs.found.made.Goals as goal

pub returns : goal.returns
returns c =
    let p = c.requires in
    let rows = rk c.rows_above-first_rows.result c.rows_above-first_rows.type_inv ∙ rw (rd (rows_fit p)) at c.rows_above-first_rows.ensures in
    let count = rw (rd (count_fits p)) at c.positive-count.ensures in
    let slice = rd (wide_fits {n = 45} (omega arith) p.sound.slice) in
    let origin = rd (wide_fits {n = 31} (omega arith) p.sound.origin) in
    rw (c.quarters-image_h.ensures, rows, slice, count, counted p.sound.count, c.texels-lines.ensures, c.start_at-start.ensures, origin) refl

pub invariant_of-result : goal.invariant_of-result
invariant_of-result c = subst SoundRuler (sym (returns c)) c.requires.sound
