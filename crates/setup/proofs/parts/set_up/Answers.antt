-- An empty frame, verdict 6, or the parts with what each call promises.
use Rattle.std.proofs.Common.{sym, ◌∙◌}
use Rattle.scaled.specs.Range.{usable}
use Rattle.setup.proofs.Laws.{empty_is, bad_is, parts_are}
use Rattle.setup.proofs.parts.set_up.Goals as goal

pub returns-then-clip_empty : goal.returns-then-clip_empty
returns-then-clip_empty c = empty_is c.args.bg c.args.q.scissor c.args.q.mode c.args.q.address (rw c.clip_of-clip.ensures.is at (sym c.clip_empty.ensures ∙ c.if-clip_empty.true))

pub returns-then-slices_bad : goal.returns-then-slices_bad
returns-then-slices_bad c =
    let k = c.clip_of-clip.ensures.is in
    bad_is c.args.bg c.args.q.scissor c.args.q.mode c.args.q.address (rw k at (sym c.clip_empty.ensures ∙ c.if-clip_empty.false))
    (rw (c.scaled_of-strips.ensures.is, c.start_of-start.ensures.is, k) at (sym c.slices_bad.ensures ∙ c.if-slices_bad.true))

pub returns : goal.returns
returns c =
    parts_are _ _ _ _
    (record {
      usable = usable c.requires;
      clip = c.clip_of-clip.ensures;
      start = c.start_of-start.ensures;
      scaled = c.scaled_of-strips.ensures;
      first = c.first_of.ensures;
      filled = sym c.clip_empty.ensures ∙ c.if-clip_empty.false;
      good = sym c.slices_bad.ensures ∙ c.if-slices_bad.false;
    })
