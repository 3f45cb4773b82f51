-- A host that follows a plan entry by entry has the bank of every entry: the plan's words, applied eleven at a time, set what the run sets. D is docs/SPECIFICATION.md, section 5.
-- Assumes nothing.
use Rattle.std.specs.Prelude.{◌≡◌, refl, Bool, true, false, cond, ◌&&◌, List, [], ◌∷◌, ◌++◌, ℕ, zero, suc, ◌+◌, ◌*◌, ◌/◌, ◌≤◌, eqb, ltb, length, take, drop, get_or}
use Rattle.std.proofs.Common.{sym, ap, ◌∙◌, append_assoc, arith, eq-eqb, eqb-true, ltb-true, lt-ltb}
use Rattle.std.proofs.Math.Seq.{paste}
use Rattle.std.proofs.lemmas.List.Edits.{length-paste}
use Rattle.plan.specs.declared.types.Entry.{Entry}
use Rattle.plan.specs.declared.types.Entry.TheVariants as entry
use Rattle.object.specs.declared.types.Verdict.TheVariants.{Full}
use Rattle.plan.specs.Out.{Plan}
use Rattle.plan.specs.Whole.{plan_of}
use Rattle.plan.specs.Run.{entry_words, plan_words, cut_at, end_of}
use Rattle.tile.specs.Bank.{extent}
use Rattle.words.specs.Eleven.{eleven}
use Rattle.giving.specs.Host.{set_in, bounds_in, words_step, words_after, run_words, end_numbers}
use Rattle.giving.proofs.HostLaws.{after_append}
use Rattle.applying.specs.Applied.{applied, applied_of}
use Rattle.request.specs.Host.{host_request}
use Rattle.visorlongan.specs.Host.{left, ran_left, host_run, host_apply}
use Rattle.small.specs.Small.{Small, AllSmall}
use Rattle.small.specs.SmallPlans.{Asked, plan_small}
use Rattle.demands.specs.Applied.{applied_from}

-- ---- a bank keeps its words' number

set_length : (ws : List ℕ) (i k : ℕ) (xs : List ℕ) (n : ℕ) → k + n ≤ 17 → n ≤ length xs → length (set_in ws i k xs n) ≡ length ws
set_length ws i k xs n h l = by (ltb i (length ws / 17)) refl
  where
    by : (t : Bool) → ltb i (length ws / 17) ≡ t → length (cond t (paste ws (i * 17 + k) xs n) ws) ≡ length ws
    by true e = let b = ltb-true i (length ws / 17) e in length-paste ws (i * 17 + k) xs n (omega arith) l
    by false e = refl

bounds_length : (ws : List ℕ) (i uls ult lrs lrt : ℕ) → length (bounds_in ws i uls ult lrs lrt) ≡ length ws
bounds_length ws i uls ult lrs lrt = set_length ws i 0 (uls ∷ ult ∷ lrs ∷ lrt ∷ extent uls lrs ∷ extent ult lrt ∷ []) 6 (omega arith) (omega arith)

step_length : (ws : List ℕ) (e : Entry) → length (words_step ws e) ≡ length ws
unfolding words_step
step_length ws (entry.Image fmt siz width address) = refl
step_length ws (entry.Tile i fmt siz line tmem palette cms cmt masks maskt) =
    set_length ws i 6 (fmt ∷ siz ∷ palette ∷ cms ∷ cmt ∷ masks ∷ maskt ∷ 0 ∷ 0 ∷ line ∷ tmem ∷ []) 11 (omega arith) (omega arith)
step_length ws (entry.Size i uls ult lrs lrt) = bounds_length ws i uls ult lrs lrt
step_length ws (entry.Load i uls ult lrs lrt words rows stride start len) = bounds_length ws i uls ult lrs lrt
step_length ws (entry.Rect i ulx uly lrx lry uls ult dsdx dtdy row) = refl

-- ---- an entry's words do what the entry does

bounded : (uls ult lrs lrt : ℕ) → (uls ≤ 65535) × ((ult ≤ 65535) × ((lrs ≤ 65535) × (lrt ≤ 65535))) → (ltb uls 65536 ≡ true) × ((ltb ult 65536 ≡ true) × ((ltb lrs 65536 ≡ true) × (ltb lrt 65536 ≡ true)))
bounded uls ult lrs lrt b = (lt-ltb uls 65536 (omega arith), (lt-ltb ult 65536 (omega arith), (lt-ltb lrs 65536 (omega arith), lt-ltb lrt 65536 (omega arith))))

words_applied : (e : Entry) → Small e → (ws : List ℕ) → applied_of (entry_words e) ws ≡ applied 0 (words_step ws e)
unfolding applied_of entry_words words_step
words_applied (entry.Image fmt siz width address) s ws = refl
words_applied (entry.Tile i fmt siz line tmem palette cms cmt masks maskt) s ws = rw (lt-ltb i 8 (omega (arith, s.0)))
words_applied (entry.Size i uls ult lrs lrt) s ws = let b = bounded uls ult lrs lrt s.1 in rw (lt-ltb i 8 (omega (arith, s.0)), b.0, b.1.0, b.1.1.0, b.1.1.1)
words_applied (entry.Load i uls ult lrs lrt words rows stride start len) s ws =
    let b = bounded uls ult lrs lrt (s.1.0, (s.1.1.0, (s.1.1.1.0, s.1.1.1.1.0))) in
    rw (lt-ltb i 8 (omega (arith, s.0)), b.0, b.1.0, b.1.1.0, b.1.1.1)
words_applied (entry.Rect i ulx uly lrx lry uls ult dsdx dtdy row) s ws = refl

eleven_first : (e : Entry) (more : List ℕ) → (take 11 (entry_words e ++ more) ≡ entry_words e) × (drop 11 (entry_words e ++ more) ≡ more)
unfolding entry_words
eleven_first (entry.Image fmt siz width address) more = (refl, refl)
eleven_first (entry.Tile i fmt siz line tmem palette cms cmt masks maskt) more = (refl, refl)
eleven_first (entry.Size i uls ult lrs lrt) more = (refl, refl)
eleven_first (entry.Load i uls ult lrs lrt words rows stride start len) more = (refl, refl)
eleven_first (entry.Rect i ulx uly lrx lry uls ult dsdx dtdy row) more = (refl, refl)

-- every entry of small numbers is taken, and sets what it sets in a run
pub entry_applied : (e : Entry) → Small e → (bank : List ℕ) → length bank ≡ 136 → host_apply (entry_words e) bank ≡ applied 0 (words_step bank e)
unfolding host_apply
entry_applied e s bank n = rw (eq-eqb (length (entry_words e)) 11 (eleven e), eq-eqb (length bank) 136 n) (words_applied e s bank)

-- ---- a plan's words

all_applied : (es : List Entry) → AllSmall es → (more bank : List ℕ) → length bank ≡ 136 → applied_from (length es) (plan_words es ++ more) bank ≡ words_after bank es
unfolding applied_from plan_words words_after
all_applied [] s more bank n = refl
all_applied (e ∷ es) s more bank n =
    let f = eleven_first e (plan_words es ++ more) in
    let a = append_assoc (entry_words e) (plan_words es) more in
    ap (λ (out : List ℕ). applied_from (length es) (drop 11 out) (host_apply (take 11 out) bank).bank) a
    ∙ ap (λ (out : List ℕ). applied_from (length es) out (host_apply (take 11 (entry_words e ++ (plan_words es ++ more))) bank).bank) f.1
    ∙ ap (λ (ws : List ℕ). applied_from (length es) (plan_words es ++ more) (host_apply ws bank).bank) f.0
    ∙ ap (λ (x : _). applied_from (length es) (plan_words es ++ more) x.bank) (entry_applied e s.0 bank n)
    ∙ all_applied es s.1 more (words_step bank e) (step_length bank e ∙ n)

small_take : (n : ℕ) (es : List Entry) → AllSmall es → AllSmall (take n es)
small_take zero es s = tt
small_take (suc n) [] s = tt
small_take (suc n) (e ∷ es) s = (s.0, small_take n es s.1)

small_cut : (n : ℕ) (p : Plan) → AllSmall p.entries → AllSmall (cut_at n p).entries
unfolding cut_at
small_cut n p s = by (ltb (n / 11) (length p.entries))
  where
    by : (t : Bool) → AllSmall (cond t (record { entries = take (n / 11) p.entries; left = []; verdict = Full }) p).entries
    by true = small_take (n / 11) p.entries s
    by false = s

-- D "the bank is as after the entries that stand, with one exception": of the exported run, its own plan's words applied as many times as its end has entries, and what a refused load has set besides
pub host_applied : (object request bank plan end : List ℕ) → Asked (host_request object request) → (host_run object request bank plan end).answer ≡ 0
    → (host_run object request bank plan end).bank
    ≡ words_after (applied_from (get_or (host_run object request bank plan end).end 1 0) (host_run object request bank plan end).plan bank) (cut_at (length plan) (plan_of (host_request object request))).left
unfolding host_run run_words end_numbers end_of
host_applied object request bank plan end asked = by (eqb (length bank) 136) refl (eqb (length request) 7) (eqb (length end) 4)
  where
    cut : Plan
    cut = cut_at (length plan) (plan_of (host_request object request))

    by : (b : Bool) → eqb (length bank) 136 ≡ b → (q e : Bool)
        → (cond (q && (b && e)) (ran_left (run_words (plan_of (host_request object request)) plan bank)) (left 1 bank plan end)).answer ≡ 0
        → (cond (q && (b && e)) (ran_left (run_words (plan_of (host_request object request)) plan bank)) (left 1 bank plan end)).bank
        ≡ words_after (applied_from (get_or (cond (q && (b && e)) (ran_left (run_words (plan_of (host_request object request)) plan bank)) (left 1 bank plan end)).end 1 0) (cond (q && (b && e)) (ran_left (run_words (plan_of (host_request object request)) plan bank)) (left 1 bank plan end)).plan bank) cut.left
    by true n true true a =
        after_append cut.entries cut.left bank
        ∙ ap (λ (ws : List ℕ). words_after ws cut.left)
        (sym (all_applied cut.entries (small_cut (length plan) _ (plan_small (host_request object request) asked).0) (drop (11 * length cut.entries) plan) bank (eqb-true (length bank) 136 n)))
    by true n true false a = absurd (omega arith)
    by true n false e a = absurd (omega arith)
    by false n true e a = absurd (omega arith)
    by false n false e a = absurd (omega arith)
