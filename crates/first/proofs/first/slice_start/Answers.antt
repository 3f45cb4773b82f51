-- The product fits, as the contract asks, so it is read back.
use Rattle.std.proofs.Common.{◌<◌, ◌^◌, arith}
use Rattle.signed.specs.Word.{rd, rdn}
use Rattle.first.specs.First.{slice_start_of}
use Rattle.first.proofs.first.slice_start.Goals as goal

pub overflow_mul-result : goal.overflow_mul-result
unfolding slice_start_of
overflow_mul-result c =
    let r : c.args.rows < 2 ^ 63 = omega arith in
    rw (rd c.ranges.slice, rdn c.args.rows r) c.requires.sfits

pub returns : goal.returns
unfolding slice_start_of
returns c =
    let r : c.args.rows < 2 ^ 63 = omega arith in
    rw (rd c.ranges.slice, rdn c.args.rows r, rd c.requires.sfits)
