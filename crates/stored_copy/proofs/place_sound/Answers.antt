-- One test for each of the definition's; a `contains` is its two comparisons.
use Rattle.stored_fields.proofs.Laws.{contains_is}
use Rattle.stored_copy.specs.Course.{place_test}
use Rattle.stored_copy.proofs.place_sound.Goals as goal

pub returns : goal.returns
unfolding place_test
returns c =
    rw (
      c.copy_sound.ensures,
      c.room.ensures,
      c.room-2.ensures,
      c.room-3.ensures,
      c.room-4.ensures,
      contains_is _ c.contains.ensures.value c.new.ensures.start c.new.ensures.end c.new.ensures.exhausted,
    )
