-- Each call's result is the definition's number, and a quotient that is rounded up is that of the sum.
use Rattle.std.proofs.Common.{arith}
use Rattle.scaled.specs.Number.{ceil_is}
use Rattle.scaled.specs.Strip.{line_of}
use Rattle.scaled.proofs.strip.line_of.Goals as goal

pub returns-clause-value : goal.returns-clause-value
unfolding line_of
returns-clause-value c =
    let e = ceil_is c.max_slice_of.result c.shift_of-shift.result (omega (arith, c.shift_of-shift.ensures.lower_bound)) in
    rw (c.div_ceil.ensures, e, c.max_slice_of.ensures.value, c.shift_of-shift.ensures.value, c.slice_width-slice.ensures.value, c.in_image-source_w.ensures)
