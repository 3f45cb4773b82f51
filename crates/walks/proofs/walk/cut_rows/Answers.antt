-- The test picks the definition's branch, and the smaller is chosen.
use Rattle.std.proofs.Common.{◌≡◌, arith, lit≤, sym, ◌∙◌, ◌<◌, ℤ, pos, ◌+ℤ◌, ◌*ℤ◌, ◌^◌, to_z, of_z}
use Rattle.std.specs.Int.{w64}
use Rattle.signed.specs.Word.{rd, rdn}
use Rattle.measures.specs.Measure.{whole}
use Rattle.measures.specs.Range.{Within}
use Rattle.plan.specs.declared.types.Scaled.{Scaled}
use Rattle.plan.specs.Sound.{SoundScaled}
use Rattle.loads.specs.Comes.{wider, read_in, times_in, floor_in, sum_in}
use Rattle.loads.proofs.Read.{value}
use Rattle.signed.proofs.Least.{min_is}
use Rattle.walks.proofs.walk.cut_rows.Goals as goal
use Rattle.walks.proofs.walk.cut_rows.Goals.{After-signed_whole-over}

over_in : (z : Scaled) (left : ℤ) → SoundScaled z → Within 40 left → Within 56 (whole (left *ℤ pos z.scale_h.0))
over_in z left h w = floor_in 56 _ 1024 (times_in 40 16 left z.scale_h.0 w h.scale_h')

few : (z : Scaled) → SoundScaled z → z.image_rows < 2 ^ 63
few z h = omega (arith, h.image_rows')

rows_in : (c : After-signed_whole-over) → Within 57 (c.args.rows +ℤ whole (c.args.left *ℤ pos c.args.z.scale_h.0))
rows_in c = let w = c.requires.within in sum_in 56 _ _ (wider 43 56 _ (lit≤ tt) w.0) (over_in c.args.z c.args.left c.requires.sound_scaled w.1)

-- the rows up to the frame's end, before one is added
whole_rows : (c : After-signed_whole-over) → to_z w64 (of_z w64 (to_z w64 (of_z w64 c.args.rows) +ℤ to_z w64 (of_z w64 c.signed_whole-over.result))) ≡ c.args.rows +ℤ whole (c.args.left *ℤ pos c.args.z.scale_h.0)
whole_rows c =
    let product = value c.times.type_inv (rw (rd c.ranges.left) at c.times.ensures) in
    let over = value c.signed_whole-over.type_inv (rw product at c.signed_whole-over.ensures) in
    rw (rd c.ranges.rows, over, read_in 57 _ (lit≤ tt) (rows_in c))

pub plus-requires : goal.plus-requires
plus-requires c =
    let g = (goal.at.plus-requires c).After-signed_whole-over in
    (rw (whole_rows g) (wider 57 61 _ (lit≤ tt) (rows_in g)), lit≤ tt)

pub returns-then-left-lt0 : goal.returns-then-left-lt0
returns-then-left-lt0 c =
    let t = rw (rd c.ranges.left) at c.if-left-lt0.true in
    let cut = value c.plus.type_inv (rw (whole_rows (goal.at.returns-then-left-lt0 c).After-signed_whole-over) at c.plus.ensures) in
    let least = rw (cut, rdn c.args.z.image_rows (few c.args.z c.requires.sound_scaled)) at c.min.ensures.value in
    value c.min.type_inv (least ∙ min_is (c.args.rows +ℤ whole (c.args.left *ℤ pos c.args.z.scale_h.0) +ℤ pos 1) (pos c.args.z.image_rows) ∙ sym (rw t))
