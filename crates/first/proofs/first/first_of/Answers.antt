-- The fields are the definition's at what is hidden, and the law of its ranges carries over.
use Rattle.std.proofs.Common.{◌≡◌, sym, ap, subst, ◌∙◌, arith, ◌<◌, ◌^◌, pos, to_z, of_z}
use Rattle.std.specs.Int.{w64}
use Rattle.signed.specs.Diff.{zarith}
use Rattle.signed.specs.Word.{rdn, rk}
use Rattle.plan.specs.declared.types.First.{First}
use Rattle.plan.specs.Scaled.{first_of}
use Rattle.plan.specs.Sound.{SoundFirst}
use Rattle.first.specs.First.{slice_of, start_of_slice}
use Rattle.first.specs.Near.{reads49}
use Rattle.first.specs.FirstLaw.{first_from}
use Rattle.first.proofs.FirstLaw.{row_in, first_from_lem, first_sound}
use Rattle.first.proofs.first.first_of.Goals as goal
use Rattle.first.proofs.first.first_of.Goals.{After-image_row}

pub slice_start-top-requires-clause-sfits : goal.slice_start-top-requires-clause-sfits
slice_start-top-requires-clause-sfits c =
    let u = c.cut_of-cut.ensures in
    let r = row_in c.args.z.image_rows c.cut_of-cut.result.slice c.requires.sound_scaled.image_rows' u.around in
    rw (reads49 u.around) (omega zarith)

pub image_row-requires-clause-around : goal.image_row-requires-clause-around
image_row-requires-clause-around c =
    let u = c.cut_of-cut.ensures in
    rw (rk _ c.slice_start-top.type_inv, c.slice_start-top.ensures, reads49 u.around)
    (row_in c.args.z.image_rows c.cut_of-cut.result.slice c.requires.sound_scaled.image_rows' u.around, c.requires.near.origin)

abbrev first : After-image_row → First
first c = record {
  slice = to_z w64 (of_z w64 c.cut_of-cut.result.slice);
  image_hidden = to_z w64 c.image_hidden_of-image_hidden.result;
  count = to_z w64 (of_z w64 c.count_of.result);
  t = c.row_part.result;
  slice_rows = to_z w64 (of_z w64 c.rows_left.result);
  image_row = c.image_row.result;
}

is : (c : After-image_row) → first c ≡ first_of c.args.z c.args.i
is c =
    let z = c.args.z in
    let i = c.args.i in
    let u = c.cut_of-cut.ensures in
    let k = reads49 u.around ∙ u.slice in
    let h = c.image_hidden_of-image_hidden.ensures.value in
    let l : c.image_hidden_of-image_hidden.result < 2 ^ 63 = omega arith in
    let at : first c ≡ first_from z i (slice_of z i) (start_of_slice z i) (pos c.cut_of-cut.result.hidden) = λ j. record {
      slice = k j;
      image_hidden = (rdn c.image_hidden_of-image_hidden.result l ∙ ap pos h) j;
      count = (rk c.count_of.result c.count_of.type_inv ∙ rw (rk c.cut_of-cut.result.start c.cut_of-cut.type_inv.1.1.1.0.1, u.start) at c.count_of.ensures) j;
      t = (rw h at c.row_part.ensures) j;
      slice_rows = (rk c.rows_left.result c.rows_left.type_inv ∙ rw h at c.rows_left.ensures) j;
      image_row = (rw (rk c.slice_start-top.result c.slice_start-top.type_inv, c.slice_start-top.ensures, k, h) at c.image_row.ensures) j;
    } in
    at ∙ ap (first_from z i (slice_of z i) (start_of_slice z i)) u.hidden ∙ first_from_lem z i

pub returns : goal.returns
returns c =
    let i = is (goal.at.returns c).After-image_row in
    record { is = i; sound = subst (SoundFirst c.args.z) (sym i) (first_sound c.args.z c.args.i c.requires.sound_scaled) }
