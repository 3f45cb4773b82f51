-- One test for each of the definition's; a `contains` is its two comparisons.
use Rattle.stored_fields.proofs.Laws.{contains_is}
use Rattle.stored_scaled.specs.Course.{scaled_test}
use Rattle.stored_scaled.proofs.scaled_sound.Goals as goal

pub returns : goal.returns
unfolding scaled_test
returns c =
    rw (
      contains_is _ c.contains.ensures.value c.new.ensures.start c.new.ensures.end c.new.ensures.exhausted,
      contains_is _ c.contains-2.ensures.value c.new-2.ensures.start c.new-2.ensures.end c.new-2.ensures.exhausted,
      contains_is _ c.contains-3.ensures.value c.new-3.ensures.start c.new-3.ensures.end c.new-3.ensures.exhausted,
      contains_is _ c.contains-4.ensures.value c.new-4.ensures.start c.new-4.ensures.end c.new-4.ensures.exhausted,
      contains_is _ c.contains-5.ensures.value c.new-5.ensures.start c.new-5.ensures.end c.new-5.ensures.exhausted,
      contains_is _ c.contains-6.ensures.value c.new-6.ensures.start c.new-6.ensures.end c.new-6.ensures.exhausted,
    )
