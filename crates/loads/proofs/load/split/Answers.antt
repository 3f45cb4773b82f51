-- Each number is the definition's, with its range.
use Rattle.std.proofs.Common.{arith, lit≤, pos}
use Rattle.signed.specs.Diff.{zarith}
use Rattle.signed.specs.Floor.{modulo}
use Rattle.signed.specs.Word.{rdn}
use Rattle.measures.specs.Range.{Within}
use Rattle.loads.specs.Coming.{loadable_of}
use Rattle.loads.specs.Comes.{wider, read_in, less_in, times_in, floor_in}
use Rattle.loads.proofs.Read.{value, odd_low, loadable_in}
use Rattle.loads.proofs.load.split.Goals as goal

pub returns : goal.returns
returns c =
    let z = c.args.z in
    let h = c.requires.sound_scaled in
    let r = c.args.source.remain in
    let v = loadable_of z c.args.source in
    let left = value c.less-loadable.type_inv (rw (read_in 43 r (lit≤ tt) c.requires.within) at c.less-loadable.ensures) in
    let odd = rw left at c.rem_euclid-odd.ensures in
    let even = value c.less.type_inv (rw (left, odd) at c.less.ensures) in
    let even_in = less_in 44 v (modulo v 2) (loadable_in z h c.args.source c.requires.within) (omega (arith, odd_low v)) in
    let from = value c.times-from.type_inv (rw even at c.times-from.ensures) in
    let stride : Within 17 (pos z.stride) = record { low = omega zarith; high = omega (zarith, h.stride') } in
    let rest = value c.less-2.type_inv (rw (rdn z.stride (omega (arith, h.stride'))) at c.less-2.ensures) in
    let width = value c.floor_div-width.type_inv (rw rest at c.floor_div-width.ensures) in
    record {
      odd = odd;
      odd' = omega (arith, odd, odd_low v);
      from = from;
      from' = rw from (times_in 45 16 _ z.line even_in (omega (arith, h.line')));
      width = width;
      width' = rw width (wider 18 20 _ (lit≤ tt) (floor_in 18 _ 8 (less_in 17 _ z.x_offset stride (omega (arith, h.x_offset)))));
    }
