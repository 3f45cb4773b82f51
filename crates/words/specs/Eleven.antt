-- An entry has eleven words, so a plan's words have eleven to an entry; and the words of entries after others.
-- Assumes nothing.
use Rattle.std.specs.Prelude.{◌≡◌, refl, List, [], ◌∷◌, ◌++◌, ℕ, ◌*◌, length}
use Rattle.std.proofs.Common.{sym, ap, ◌∙◌, append_assoc, arith, length-append}
use Rattle.plan.specs.declared.types.Entry.{Entry}
use Rattle.plan.specs.declared.types.Entry.TheVariants as entry
use Rattle.plan.specs.Run.{entry_words, plan_words}

pub eleven : (e : Entry) → length (entry_words e) ≡ 11
unfolding entry_words
eleven (entry.Image fmt siz width address) = refl
eleven (entry.Tile i fmt siz line tmem palette cms cmt masks maskt) = refl
eleven (entry.Size i uls ult lrs lrt) = refl
eleven (entry.Load i uls ult lrs lrt words rows stride start len) = refl
eleven (entry.Rect i ulx uly lrx lry uls ult dsdx dtdy row) = refl

pub eleven_each : (es : List Entry) → length (plan_words es) ≡ 11 * length es
unfolding plan_words
eleven_each [] = refl
eleven_each (e ∷ es) = length-append (entry_words e) (plan_words es) ∙ omega (arith, eleven e, eleven_each es)

pub words_append : (es fs : List Entry) → plan_words (es ++ fs) ≡ plan_words es ++ plan_words fs
unfolding plan_words
words_append [] fs = refl
words_append (e ∷ es) fs = ap (λ (l : List ℕ). entry_words e ++ l) (words_append es fs) ∙ sym (append_assoc (entry_words e) (plan_words es) (plan_words fs))
