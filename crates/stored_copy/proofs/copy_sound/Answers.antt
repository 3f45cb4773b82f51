-- One test for each of the definition's; a `contains` is its two comparisons.
use Rattle.std.specs.Prelude.{get_or}
use Rattle.std.proofs.Common.{arith, le-leb}
use Rattle.stored_fields.proofs.Laws.{contains_is}
use Rattle.stored_copy.specs.Course.{copy_test}
use Rattle.stored_copy.proofs.copy_sound.Goals as goal

pub returns-then-siz-le3 : goal.returns-then-siz-le3
unfolding copy_test
returns-then-siz-le3 c =
    rw (
      le-leb (get_or c.args.words.now 6 0) 3 (omega arith),
      c.texels_per_word.ensures,
      contains_is _ c.contains.ensures.value c.new.ensures.start c.new.ensures.end c.new.ensures.exhausted,
      contains_is _ c.contains-then-siz-le3.ensures.value c.new-then-siz-le3.ensures.start c.new-then-siz-le3.ensures.end c.new-then-siz-le3.ensures.exhausted,
      contains_is _ c.contains-then-siz-le3-2.ensures.value c.new-then-siz-le3-2.ensures.start c.new-then-siz-le3-2.ensures.end c.new-then-siz-le3-2.ensures.exhausted,
      contains_is _ c.contains-then-siz-le3-3.ensures.value c.new-then-siz-le3-3.ensures.start c.new-then-siz-le3-3.ensures.end c.new-then-siz-le3-3.ensures.exhausted,
      contains_is _ c.contains-then-siz-le3-4.ensures.value c.new-then-siz-le3-4.ensures.start c.new-then-siz-le3-4.ensures.end c.new-then-siz-le3-4.ensures.exhausted,
    )
