-- The next word is the file's next eight bytes; all 136 make the bank.
use Rattle.std.proofs.Common.{arith, refl, ◌∙◌, length-set}
use Rattle.replay.specs.Outcome.{words_in}
use Rattle.replay.proofs.Outcomes.{next_word}
use Rattle.replay.proofs.files.bank_of.Goals as goal

pub loop-k-init : goal.loop-k-init
unfolding words_in
loop-k-init c = record { long = refl; words = refl }

pub loop-k-preserved : goal.loop-k-preserved
loop-k-preserved c =
    let l = c.loop-k in
    record {
      long = length-set l.numbers l.k c.field_from.result ∙ l.invariant.long;
      words = next_word c.args.bytes.now l.numbers l.k c.field_from.result (omega arith) l.invariant.words c.field_from.ensures.is;
    }
