-- The fields are the definition's, and the law of its ranges carries over.
use Rattle.std.proofs.Common.{◌≡◌, sym, ap, subst, ◌∙◌}
use Rattle.plan.specs.declared.types.Scaled.{Scaled}
use Rattle.plan.specs.Scaled.{scaled_of, slices_bad}
use Rattle.plan.specs.Sound.{SoundScaled}
use Rattle.scaled.specs.Strip.{shift_of, max_slice, line_of, split_of, s_of}
use Rattle.scaled.specs.StripLaw.{scaled_sound}
use Rattle.scaled.proofs.strip.scaled_of.Goals as goal
use Rattle.scaled.proofs.strip.scaled_of.Goals.{After-add}

abbrev scaled : After-add → Scaled
scaled c =
    let a = c.args in
    let r = c.rows_of-rows.result in
    let k = c.columns_of-columns.result in
    record {
      fmt = c.into.result;
      siz = c.into-2.result;
      palette = c.into-3.result;
      address = a.address;
      x = a.c.x;
      x_end = c.add.result;
      scale_w = a.bg.scale_w;
      scale_h = a.bg.scale_h;
      bilerp = c.bilerp_of-bilerp.result;
      split = k.split;
      source_rows = r.source_rows;
      line = r.line;
      image_rows = r.image_rows;
      frame_rows = r.frame_rows;
      stride = k.stride;
      x_offset = k.x_offset;
      s = k.s;
    }

is : (c : After-add) → scaled c ≡ scaled_of c.args.bg c.args.mode c.args.address c.args.c c.args.i
unfolding scaled_of shift_of max_slice line_of split_of s_of
is c =
    let a = c.args in
    let l = c.bilerp_of-bilerp.ensures.value in
    let r = rw l at c.rows_of-rows.ensures in
    let k = rw l at c.columns_of-columns.ensures in
    λ j. record {
      fmt = c.into.ensures j;
      siz = c.into-2.ensures j;
      palette = (c.into-3.ensures ∙ c.low8.ensures) j;
      address = a.address;
      x = a.c.x;
      x_end = c.add.ensures j;
      scale_w = a.bg.scale_w;
      scale_h = a.bg.scale_h;
      bilerp = l j;
      split = k.split j;
      source_rows = r.source_rows j;
      line = r.line j;
      image_rows = r.image_rows j;
      frame_rows = r.frame_rows j;
      stride = k.stride j;
      x_offset = k.x_offset j;
      s = k.s j;
    }

pub returns : goal.returns
returns c =
    let i = is (goal.at.returns c).After-add in
    record { is = i; sound = λ e. subst SoundScaled (sym i) (scaled_sound c.args.bg c.args.mode c.args.address c.args.c c.args.i c.requires.usable c.requires.filled c.requires.start_in (sym (ap slices_bad i) ∙ e)) }
