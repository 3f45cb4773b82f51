-- The fields are put one after another into bytes of 0, and what comes of it computes to the fields in their order.
use Rattle.std.proofs.Common.{refl}
use Rattle.picture.specs.Writer.{copy_bytes}
use Rattle.picture.proofs.writer.object_bytes.Goals as goal

pub returns : goal.returns
unfolding copy_bytes
returns c =
    rw (
      c.put_half-9.ensures,
      c.put_half-8.ensures,
      c.put_half-7.ensures,
      c.put_half-6.ensures,
      c.put_half-5.ensures,
      c.copy_from_slice.ensures.after,
      c.to_be_bytes.ensures,
      c.put_half-4.ensures,
      c.put_half-3.ensures,
      c.put_half-2.ensures,
      c.put_half.ensures,
    )
    refl
