-- An entry's words or an end's numbers are digested.
use Rattle.replay.specs.Steps.{answer_words}
use Rattle.replay.proofs.steps.answer_into.Goals as goal

pub returns-in-Ok : goal.returns-in-Ok
unfolding answer_words
returns-in-Ok c = rw (c.in-Ok.is, c.digest_from.ensures, c.entry_words-words.ensures)

pub returns-in-Err : goal.returns-in-Err
unfolding answer_words
returns-in-Err c = rw (c.in-Err.is, c.digest_from-in-Err.ensures, c.end_numbers-numbers.ensures)
