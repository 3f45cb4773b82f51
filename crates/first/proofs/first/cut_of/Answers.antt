-- Each call's result is the definition's number, and what the next call asks follows by `FirstLaw`.
use Rattle.std.proofs.Common.{◌≡◌, ◌∙◌, arith, ◌<◌, to_z, of_z}
use Rattle.std.specs.Int.{w64}
use Rattle.signed.specs.Diff.{zdiff, zarith}
use Rattle.signed.specs.Word.{rk}
use Rattle.measures.specs.Range.{Around}
use Rattle.plan.specs.declared.types.Scaled.{Scaled}
use Rattle.plan.specs.Sound.{SoundScaled}
use Rattle.first.specs.First.{offset_of, slice_of}
use Rattle.first.proofs.FirstLaw.{starts, start_fits, slice_in}
use Rattle.first.proofs.first.cut_of.Goals as goal
use Rattle.first.proofs.first.cut_of.Goals.{After-floor_div-slice}

lines : {z : Scaled} → SoundScaled z → 0 < z.frame_rows
lines s = omega (arith, s.frame_rows)

offset_is : (c : After-floor_div-slice) → c.frame_offset-offset.result ≡ offset_of c.args.z c.args.i
offset_is c = rw (rk _ c.image_offset.type_inv, c.image_offset.ensures.value) at c.frame_offset-offset.ensures.value

offset_in : (c : After-floor_div-slice) → Around 49 (offset_of c.args.z c.args.i)
offset_in c = rw (offset_is c) at c.frame_offset-offset.ensures.around

slice_is : (c : After-floor_div-slice) → to_z w64 (of_z w64 c.floor_div-slice.result) ≡ slice_of c.args.z c.args.i
slice_is c = rk _ c.floor_div-slice.type_inv ∙ rw (rk _ c.frame_offset-offset.type_inv, offset_is c) at c.floor_div-slice.ensures

pub slice_start-start-requires-clause-sfits : goal.slice_start-start-requires-clause-sfits
slice_start-start-requires-clause-sfits c =
    let g = (goal.at.slice_start-start-requires-clause-sfits c).After-floor_div-slice in
    let r = offset_in g in
    rw (slice_is g) (start_fits (offset_of c.args.z c.args.i) c.args.z.frame_rows (lines c.requires.sound_scaled) c.requires.sound_scaled.frame_rows' r)

pub hidden_of-hidden-requires-clause-start_le_offset : goal.hidden_of-hidden-requires-clause-start_le_offset
hidden_of-hidden-requires-clause-start_le_offset c =
    let g = (goal.at.hidden_of-hidden-requires-clause-start_le_offset c).After-floor_div-slice in
    let r = offset_in g in
    let t = starts (offset_of c.args.z c.args.i) c.args.z.frame_rows (lines c.requires.sound_scaled) in
    let m = c.requires.sound_scaled.frame_rows' in
    let s = rk _ c.slice_start-start.type_inv ∙ rw (slice_is g) at c.slice_start-start.ensures in
    rw (s, rk _ c.frame_offset-offset.type_inv, offset_is g) (simp zdiff (omega zarith))

pub returns : goal.returns
returns c =
    let g = (goal.at.returns c).After-floor_div-slice in
    let r = offset_in g in
    let k = slice_in (offset_of c.args.z c.args.i) c.args.z.frame_rows (lines c.requires.sound_scaled) r in
    let s = rk _ c.slice_start-start.type_inv ∙ rw (slice_is g) at c.slice_start-start.ensures in
    record {
      slice = slice_is g;
      start = s;
      hidden = rw (s, rk _ c.frame_offset-offset.type_inv, offset_is g) at c.hidden_of-hidden.ensures.result_value;
      around = rw (slice_is g) k;
      most = c.hidden_of-hidden.ensures.upper_bound;
    }
