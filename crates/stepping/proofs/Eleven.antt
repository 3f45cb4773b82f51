-- Every answer has eleven words. Assumes nothing.
use Rattle.std.specs.Prelude.{Ok, Err}
use mathlib.Core.Path.{◌≡◌, refl}
use lib.ListN.{length}
use Rattle.plan.specs.Steps.{Answer}
use Rattle.words.specs.Eleven.{eleven}
use Rattle.stepping.specs.Host.{answer_words}

pub eleven_words : (a : Answer) → length (answer_words a) ≡ 11
eleven_words (Ok e) = eleven e
eleven_words (Err x) = refl
