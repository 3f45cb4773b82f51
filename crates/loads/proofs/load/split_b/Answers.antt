-- The part is the definition's, and the other part's pointer is kept.
use Rattle.std.proofs.Common.{◌≡◌, ◌-ℤ◌, ℤ, pos, arith, refl, lit≤, to_z, of_z}
use Rattle.std.specs.Int.{w64}
use Rattle.measures.specs.Range.{Within}
use Rattle.plan.specs.declared.types.Scaled.{Scaled}
use Rattle.plan.specs.Sound.{SoundScaled}
use Rattle.loads.specs.Coming.{piece_out}
use Rattle.loads.specs.Comes.{wider, read_in, difference_in, sum_is}
use Rattle.loads.specs.Enter.{reaches_as}
use Rattle.loads.proofs.Read.{one_more, rows_is, line_is, line_in}
use Rattle.loads.proofs.load.split_b.Goals as goal

-- the columns that the first part leaves
rest_is : (z : Scaled) (h : SoundScaled z) {width : ℤ} → Within 20 width → to_z w64 (of_z w64 (pos z.line -ℤ to_z w64 (of_z w64 width))) ≡ pos z.line -ℤ width
rest_is z h w = rw (read_in 20 _ (lit≤ tt) w) (read_in 21 _ (lit≤ tt) (difference_in 20 _ _ (line_in z h) w))

pub returns : goal.returns
unfolding piece_out
returns c =
    let r = c.requires.split_is in
    let z = c.args.p.scaled in
    let h = c.requires.sound_pass.scaled in
    let from = sum_is {k = 61} (lit≤ tt) r.from' (wider 20 61 _ (lit≤ tt) r.width') in
    reaches_as refl (omega arith) (rw (rows_is c.args.p c.requires.sound_pass, one_more c.args.s.odd r.odd', from, line_is z h, rest_is z h r.width', r.odd, r.from, r.width) at c.enter.ensures)
