-- From the planner's step to its words.
-- Assumes nothing.
use mathlib.Core.Path.{◌≡◌, ap, ◌∙◌}
use mathlib.Core.List.{List, [], ◌∷◌}
use Prim.Native.Nat.{ℕ}
use Rattle.std.specs.Prelude.{Ok, Err}
use Rattle.plan.specs.declared.types.Entry.{Entry}
use Rattle.plan.specs.declared.types.End.{End}
use Rattle.plan.specs.Steps.{answer_of}
use Rattle.giving.specs.Host.{words_after}
use Rattle.planner.specs.Planner.{Planner}
use Rattle.planner.specs.declared.types.Step.{Step}
use Rattle.planner.specs.Coming.{coming, Given, answer_in, left_in, left_next, counts_next, StepGives}
use Rattle.planner.specs.Planner.{planner_at}
use Rattle.stored.specs.Stored.{stored_of, StoredIs}
use Rattle.stepping.specs.Host.{answer_words, sets_in, sets_next, Moved}

-- what sets the bank, in terms of what was to come
sets_next_lem : (es left : List Entry) (x : End) (g : Given) → answer_in g ≡ answer_of es x → left_in g ≡ left_next es left → sets_in g ≡ sets_next es left
sets_next_lem [] left x (Ok e) a l = cc
sets_next_lem [] left x (Err s) a l = l
sets_next_lem (e ∷ es) left x (Ok f) a l = let k : f ≡ e = cc in ap (λ (d : Entry). d ∷ []) k
sets_next_lem (e ∷ es) left x (Err s) a l = cc

pub moved_is : (p : Planner) (s : Step) → StepGives p s → (bank ws' bank' out' : List ℕ) → StoredIs s.planner ws' → bank' ≡ words_after bank (sets_in s.given) → out' ≡ answer_words (answer_in s.given) → Moved p bank ws' bank' out'
moved_is p s g bank ws' bank' out' k b o =
    record {
      out = o ∙ ap answer_words g.answer;
      set = b ∙ ap (words_after bank) (sets_next_lem (coming p).entries (coming p).left (coming p).end s.given g.answer g.left);
      has = record { planner = s.planner; words = record { stored = k; sound = g.sound }; coming = g.rest };
      over = λ none. k.is ∙ (λ j. stored_of (planner_at (g.over none j) ((g.counts ∙ ap (λ (es : List Entry). counts_next es p.counts) none) j)));
    }
