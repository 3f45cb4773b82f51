-- The distance and the quotient are read back.
use Rattle.signed.specs.Word.{rd, rk}
use Rattle.first.specs.First.{frame_offset_of}
use Rattle.first.proofs.first.frame_offset.Goals as goal

pub returns-clause-value : goal.returns-clause-value
unfolding frame_offset_of
returns-clause-value c =
    let q = rw (rd c.ranges.offset) at c.floor_div.ensures in
    let e = rw (rk _ c.floor_div.type_inv, q) at c.of_lines.ensures in
    rw (rk _ c.of_lines.type_inv, e)
