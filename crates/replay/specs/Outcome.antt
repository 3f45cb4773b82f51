-- What the run of a record leaves: the end, and digests of the entries that stand and of the bank.
-- Assumes nothing.
use Rattle.std.specs.Prelude.{List, [], ◌∷◌, ◌++◌, ℕ, zero, suc, ◌*◌}
use Rattle.object.specs.Layout.{read}
use Rattle.plan.specs.Out.{Plan}
use Rattle.plan.specs.Run.{plan_words, end_of, cut_at}
use Rattle.giving.specs.Host.{words_after}
use Rattle.digest.specs.Fnv.{digest_of}
use Rattle.replay.specs.declared.outcome.Outcome.{Outcome}

-- the bank's words after a plan in a buffer of so many words
abbrev pub words_left : Plan → (room : ℕ) → (bank : List ℕ) → List ℕ
words_left p room ws =
    let cut = cut_at room p in
    words_after ws (cut.entries ++ cut.left)

-- and all that is kept of it
unfoldable pub outcome_of : Plan → (room : ℕ) → (bank : List ℕ) → Outcome
outcome_of p room ws =
    let cut = cut_at room p in
    record { end = end_of cut; entries = digest_of (plan_words cut.entries); bank = digest_of (words_left p room ws) }

-- the first n words of bytes
unfoldable pub words_in : ℕ → List ℕ → List ℕ
words_in zero bs = []
words_in (suc n) bs = words_in n bs ++ (read bs (8 * n) 8 ∷ [])
