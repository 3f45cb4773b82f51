-- The first sum, and the walk before the first pass; the first row's offset is small.
use Rattle.std.proofs.Common.{◌+◌, ◌*◌, ◌<◌, ◌≤◌, ◌^◌, arith, lit≤, refl, mul-le-mul}
use Rattle.signed.specs.Diff.{zarith}
use Rattle.signed.specs.Word.{rdn}
use Rattle.measures.specs.Range.{Within}
use Rattle.plan.specs.declared.types.Scaled.{Scaled}
use Rattle.plan.specs.declared.types.First.{First}
use Rattle.plan.specs.Sound.{SoundScaled, SoundFirst}
use Rattle.loads.specs.Comes.{read_in}
use Rattle.loads.specs.Enter.{none_ends}
use Rattle.loads.specs.Sums.{checked_sum}
use Rattle.loads.proofs.Read.{value}
use Rattle.passes.specs.Given.{start_at_lem, start_refused}
use Rattle.passes.proofs.step.scaled_start.Goals as goal

offset_low : (z : Scaled) (f : First) → SoundScaled z → SoundFirst z f → z.stride * f.image_row + z.x_offset < 2 ^ 63
offset_low z f h g =
    let r : f.image_row ≤ 16383 = omega (arith, g.image_row, h.source_rows') in
    let o : z.stride * f.image_row ≤ 65535 * 16383 = mul-le-mul h.stride' r in
    omega (arith, h.x_offset)

-- the first strip's signed numbers
count_in : (z : Scaled) (f : First) → SoundFirst z f → Within 32 f.count
count_in z f g = let a = g.count in let b = g.count' in record { low = omega zarith; high = omega zarith }

rows_in : (z : Scaled) (f : First) → SoundFirst z f → Within 28 f.slice_rows
rows_in z f g = let a = g.slice_rows in let b = g.slice_rows' in record { low = omega zarith; high = omega zarith }

pub returns-in_err-pointer : goal.returns-in_err-pointer
returns-in_err-pointer c =
    let a = c.args in
    let h = c.requires in
    let none = c.in_err-pointer.ensures in
    let first = checked_sum a.z.address (a.z.stride * a.f.image_row + a.z.x_offset) _ c.checked_add.ensures in
    rw (none_ends none.ok_part none.value c.from_residual.ensures.1) (start_refused a.z a.c a.f h.sound_scaled h.sound_first.0 h.sound_first.1 (rw none.ok_part at first))

pub returns : goal.returns
returns c =
    let a = c.args in
    let h = c.requires.sound_scaled in
    let g = c.requires.sound_first.0 in
    let remain = value c.less-remain.type_inv (rw (rdn a.z.source_rows (omega (arith, h.source_rows'))) at c.less-remain.ensures) in
    let left = rdn c.texels-2.result (omega (arith, c.texels-2.ensures, c.requires.sound_first.1.height)) in
    let count = read_in 32 a.f.count (lit≤ tt) (count_in a.z a.f g) in
    let rows = read_in 28 a.f.slice_rows (lit≤ tt) (rows_in a.z a.f g) in
    let first = checked_sum a.z.address (a.z.stride * a.f.image_row + a.z.x_offset) _ c.checked_add.ensures in
    start_at_lem a.z a.c a.f h g c.requires.sound_first.1 _ c.in_ok-pointer.pointer refl (cc (c.texels.ensures, c.texels-2.ensures)) (rw c.in_ok-pointer.ensures.ok_part at first)
