-- Each word is the definition's number, and what a field of 64 bits holds fits it. With the law `word_read` named on the function and no answers, `search` gave up at one of its limits.
use Rattle.std.proofs.Common.{rules}
use Rattle.stored_fields.proofs.Laws.{word_read}
use Rattle.stored_scaled.specs.Course.{scaled_words, FitsPlace}
use Rattle.stored_scaled.proofs.scaled_words.Goals as goal

pub returns : goal.returns
unfolding scaled_words
returns c =
    let f : FitsPlace c.args.p = search rules in (
      rw (
        c.stage_word.ensures,
        c.quarters.ensures,
        c.quarters-2.ensures,
        c.cast_unsigned.ensures,
        c.cast_unsigned-2.ensures,
        c.cast_unsigned-3.ensures,
        c.cast_unsigned-4.ensures,
        c.thirty_seconds.ensures,
        c.cast_unsigned-5.ensures,
        c.cast_unsigned-6.ensures,
        c.cast_unsigned-7.ensures,
        c.cast_unsigned-8.ensures,
        c.cast_unsigned-9.ensures,
        c.cast_unsigned-10.ensures,
        c.piece_word.ensures,
      )
          (rw (word_read _ f.s, word_read _ f.remain, word_read _ f.count, word_read _ f.slice_rows, word_read _ f.source, word_read _ f.rows, word_read _ f.part_rows, word_read _ f.destination, word_read _ f.width, word_read _ f.next)),
      f,
    )
