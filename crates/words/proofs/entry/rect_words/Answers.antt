-- The definition's clause, with four signed numbers as words; each local reads back as its number.
use Rattle.plan.specs.Run.{entry_words}
use Rattle.signed.specs.Word.{rd}
use Rattle.words.proofs.entry.rect_words.Goals as goal

pub returns : goal.returns
unfolding entry_words
returns c =
    simp (c.word_of.ensures, c.word_of-2.ensures, c.word_of-3.ensures, c.word_of-4.ensures, rd c.ranges.uls, rd c.ranges.ult, rd c.ranges.dsdx, rd c.ranges.dtdy)
