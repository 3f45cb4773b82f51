-- Steps one after another: what is answered and what is to come make up all that the steps answer; and what a run has written before them.
-- Assumes nothing.
use mathlib.Core.Path.{◌≡◌, refl, sym, ap, subst, ◌∙◌}
use mathlib.Core.Bool.{Bool, true, false}
use mathlib.Core.List.{List, [], ◌∷◌, ◌++◌, append_assoc, append-nil}
use Rattle.std.specs.Prelude.{Option, Some, None, Ok, Err, is_some, is_err, IfSome}
use Rattle.std.specs.Int.{from_bool}
use Prim.Native.Nat.{ℕ, zero, suc, ◌+◌, ◌-◌, ◌/◌, ◌<◌, ◌≤◌}
use native.Mathlib.Numerals.{add-one}
use native.Mathlib.Omega.{arith}
use borrow.Author.Tests.{lt-ltb}
use lib.Dec.{ltb}
use lib.ListN.{length, take, drop, get_or}
use lib.Seq.{take-suc, drop-cons, length-take-le}
use Rattle.object.specs.declared.types.Verdict.TheVariants as verdict
use Rattle.tile.specs.declared.bank.Bank.{Bank}
use Rattle.plan.specs.declared.types.Entry.{Entry}
use Rattle.plan.specs.declared.types.Entry.TheVariants as entry
use Rattle.plan.specs.declared.types.End.{End}
use Rattle.plan.specs.Steps.{Answer}
use Rattle.plan.specs.Out.{Plan}
use Rattle.plan.specs.Run.{entry_words, plan_words, bank_step, bank_after, end_of, cut_at}
use Rattle.plan.specs.Sound.{Narrow}
use Rattle.plan.specs.Steps.{Coming, coming_of, answers, bank_to, next_of, answer_of, bank_next}
use Rattle.giving.specs.Host.{bank_numbers, bank_from, words_after}
use Rattle.giving.proofs.HostLaws.{words_after_lem}
use Rattle.digest.specs.Fnv.{basis, digest_from, digest_of, word_into}
use Rattle.planner.specs.Planner.{Planner}
use Rattle.planner.specs.declared.types.Step.{Step}
use Rattle.planner.specs.declared.types.Stepped.{Stepped}
use Rattle.planner.specs.Coming.{StepGives, StepIs, coming, Given, answer_in, GivenIn}
use Rattle.replay.specs.declared.outcome.Outcome.{Outcome}
use Rattle.replay.specs.declared.steps.Digests.{Digests}
use Rattle.replay.specs.Outcome.{outcome_of, words_left}
use Rattle.banks.specs.Narrows.{AllNarrow}
use Rattle.replay.specs.Passed.{Passed}
use Rattle.replay.specs.Steps.{answer_words, answers_words, stepped_from, stepped_of, ends_in, mixed_of, replayed_of}
use Rattle.banks.proofs.Banks.{BankFits, bank_back, after_fits}

-- words after words
digest_append : (xs ys : List ℕ) (h : ℕ) → digest_from h (xs ++ ys) ≡ digest_from (digest_from h xs) ys
unfolding digest_from
digest_append [] ys h = refl
digest_append (x ∷ xs) ys h = digest_append xs ys (word_into 8 x h)

-- ---- to the end and beyond: with m ends to come after the entries

abbrev all_answers : ℕ → Coming → List Answer
all_answers m k = answers (length k.entries + m) k.entries k.end

abbrev last_bank : ℕ → Coming → Bank → Bank
last_bank m k b = bank_to (length k.entries + m) k.entries k.left b

-- once an end is answered no entry is to come
pub record Under (k : Coming) (b : Bank) (h : ℕ) (p : Planner) (c : Bank) (g ends : ℕ) : Type 0 where
  pub few : ends ≤ 4
  pub none : 0 < ends → (coming p).entries ≡ []
  pub answered : digest_from g (answers_words (all_answers (4 - ends) (coming p))) ≡ digest_from h (answers_words (all_answers 4 k))
  pub banked : last_bank (4 - ends) (coming p) c ≡ last_bank 4 k b

pub under_start : (p : Planner) (b : Bank) (h : ℕ) → Under (coming p) b h p b h 0
under_start p b h = record { few = omega arith; none = λ l. absurd (omega arith); answered = refl; banked = refl }

-- an end is an `Err`
pub end_is : (a : Answer) → from_bool (is_err a) ≡ ends_in a
unfolding ends_in
end_is (Ok e) = refl
end_is (Err e) = refl

-- one step, in terms of what was to come
record Next (es left : List Entry) (e : End) (b : Bank) (ends after : ℕ) : Type 0 where
  few : after ≤ 4
  none : 0 < after → (next_of es left e).entries ≡ []
  answered : answers_words (answers (length es + (4 - ends)) es e) ≡ answer_words (answer_of es e) ++ answers_words (all_answers (4 - after) (next_of es left e))
  banked : bank_to (length es + (4 - ends)) es left b ≡ last_bank (4 - after) (next_of es left e) (bank_next es left b)
  less : length (next_of es left e).entries + (4 - after) < length es + (4 - ends)

next_is : (es left : List Entry) (e : End) (b : Bank) (ends after : ℕ) → ends < 4 → (0 < ends → es ≡ []) → after ≡ ends + ends_in (answer_of es e) → Next es left e b ends after
unfolding ends_in answers answers_words bank_to
next_is [] left e b ends after h f i =
    let z : length {A = Entry} [] + (4 - ends) ≡ suc (length {A = Entry} [] + (4 - after)) = omega arith in
    record { few = omega arith; none = λ l. refl; answered = rw z; banked = rw z; less = omega arith }
next_is (x ∷ es) left e b ends after h f i =
    let o = first (x ∷ es) ends f (longer x es) in
    let z : length (x ∷ es) + (4 - ends) ≡ suc (length es + (4 - after)) = omega (arith, longer x es) in
    record { few = omega arith; none = λ l. absurd (omega arith); answered = rw z; banked = rw z; less = omega (arith, longer x es) }
  where
    longer : (x : Entry) (es : List Entry) → length (x ∷ es) ≡ suc (length es)
    longer x es = refl

    first : (l : List Entry) (n : ℕ) → (0 < n → l ≡ []) → length l ≡ suc (length es) → n ≡ 0
    first l zero f k = refl
    first l (suc n) f k = absurd (omega (arith, ap length (f (omega arith))))

module _ (k : Coming) (b : Bank) (h : ℕ) (p : Planner) (c : Bank) (g ends : ℕ) (u : Under k b h p c g ends) (more : ends < 4) (s : Stepped) (i : StepIs p c s) (after : ℕ) (is : after ≡ ends + ends_in s.answer) where
  next : Next (coming p).entries (coming p).left (coming p).end c ends after
  next = next_is _ _ _ c ends after more u.none (is ∙ ap (λ (a : Answer). ends + ends_in a) i.answer)

  pub under_more : (g' : ℕ) → g' ≡ digest_from g (answer_words s.answer) → Under k b h s.planner s.bank g' after
  under_more g' e =
      record {
        few = next.few;
        none = λ l. ap (λ (x : Coming). x.entries) i.rest ∙ next.none l;
        answered =
            rw (i.rest, e, i.answer)
            (sym (digest_append (answer_words (answer_of (coming p).entries (coming p).end)) _ g) ∙ ap (digest_from g) (sym next.answered) ∙ u.answered);
        banked = rw (i.rest, i.bank) (sym next.banked ∙ u.banked);
      }

-- four ends are answered
module _ (k : Coming) (b : Bank) (h : ℕ) (p : Planner) (c : Bank) (g ends : ℕ) (u : Under k b h p c g ends) (all : 4 ≤ ends) where
  over : (es left : List Entry) (e : End) (m : ℕ) → es ≡ [] → m ≡ 0 → (answers (length es + m) es e ≡ []) × (bank_to (length es + m) es left c ≡ c)
  unfolding answers bank_to
  over es left e m i z = (rw (i, z), rw (i, z))

  pub under_over : (d : ℕ) → d ≡ digest_of (bank_numbers c) → record { answers = g; bank = d } ≡ stepped_from h k b
  unfolding stepped_from answers_words digest_from
  under_over d e =
      let o = over (coming p).entries (coming p).left (coming p).end (4 - ends) (u.none (omega arith)) (omega arith) in
      let a : g ≡ digest_from h (answers_words (all_answers 4 k)) = (rw o.0 at u.answered) in
      let l : c ≡ last_bank 4 k b = sym o.1 ∙ u.banked in
      λ j. record { answers = a j; bank = (e ∙ ap (λ (x : Bank). digest_of (bank_numbers x)) l) j }

-- ---- steps that are passed over

narrow_more : (es : List Entry) (x : Entry) → AllNarrow es → Narrow x → AllNarrow (es ++ x ∷ [])
narrow_more [] x h n = (n, tt)
narrow_more (e ∷ es) x h n = (h.0, narrow_more es x h.1 n)

-- the entry that is given is narrow
given_narrow : (g : Given) (x : Entry) → answer_in g ≡ Ok x → GivenIn g → Narrow x
given_narrow (Ok e) x i h = let k : e ≡ x = cc in subst Narrow k h.narrow
given_narrow (Err s) x i h = cc

pub passed_start : (p : Planner) → Passed 0 (coming p) p
passed_start p = record { rest = refl; narrow = tt }

pub passed_more : (i : ℕ) (k : Coming) (p : Planner) → Passed i k p → i < length k.entries → (s : Step) → StepGives p s → Passed (i + 1) k s.planner
passed_more i k p h l s g =
    let x = get_or k.entries i (entry.Image 0 0 0 0) in
    let there : (coming p).entries ≡ x ∷ drop (suc i) k.entries = ap (λ (c : Coming). c.entries) h.rest ∙ drop-cons k.entries i _ l in
    rw (add-one)
    (record {
      rest = g.rest ∙ rw there (λ j. record { entries = drop (suc i) k.entries; left = (h.rest j).left; end = (h.rest j).end });
      narrow = rw (take-suc k.entries i (entry.Image 0 0 0 0) l) (narrow_more (take i k.entries) x h.narrow (given_narrow s.given x (g.answer ∙ ap (λ (es : List Entry). answer_of es (coming p).end) there) g.ranges));
    })

-- ---- a run, then steps

join_answers : (m : ℕ) (es : List Entry) (e : End) (j : ℕ) → m ≤ length es → answers_words (answers (length es + j) es e) ≡ plan_words (take m es) ++ answers_words (answers (length (drop m es) + j) (drop m es) e)
unfolding plan_words answers answers_words answer_words
join_answers zero es e j h = refl
join_answers (suc m) [] e j h = absurd (omega arith)
join_answers (suc m) (x ∷ es) e j h =
    let z : length (x ∷ es) + j ≡ suc (length es + j) = omega arith in
    rw z (ap (λ (ws : List ℕ). entry_words x ++ ws) (join_answers m es e j (omega arith)) ∙ sym (append_assoc (entry_words x) (plan_words (take m es)) _))

join_bank : (m : ℕ) (es left : List Entry) (b : Bank) (j : ℕ) → m ≤ length es → bank_to (length es + j) es left b ≡ bank_to (length (drop m es) + j) (drop m es) left (bank_after b (take m es))
unfolding bank_to bank_after
join_bank zero es left b j h = refl
join_bank (suc m) [] left b j h = absurd (omega arith)
join_bank (suc m) (x ∷ es) left b j h =
    let z : length (x ∷ es) + j ≡ suc (length es + j) = omega arith in
    rw z (join_bank m es left (bank_step b x) j (omega arith))

joined : (m : ℕ) (p : Plan) (b : Bank) → m ≤ length p.entries
    → stepped_from (digest_of (plan_words (take m p.entries))) (record { entries = drop m p.entries; left = p.left; end = end_of p }) (bank_after b (take m p.entries)) ≡ stepped_of p b
unfolding stepped_from
joined m p b h = λ i.
    record {
      answers = (sym (digest_append (plan_words (take m p.entries)) _ basis) ∙ ap (digest_from basis) (sym (join_answers m p.entries (end_of p) 4 h))) i;
      bank = ap (λ (c : Bank). digest_of (bank_numbers c)) (sym (join_bank m p.entries p.left b 4 h)) i;
    }

-- a run into a buffer that is too short for the plan
module _ (p : Plan) (chunk : ℕ) (short : chunk / 11 < length p.entries) where
  abbrev m : ℕ
  m = chunk / 11

  cut_is : cut_at chunk p ≡ record { entries = take m p.entries; left = []; verdict = verdict.Full }
  unfolding cut_at
  cut_is = rw (lt-ltb m (length p.entries) short)

  module _ (b : Bank) (fits : BankFits b) (ws : List ℕ) (w : ws ≡ bank_numbers b) (run : Outcome) (o : run ≡ outcome_of p chunk ws) where
    written : run.end.entries ≡ m
    unfolding outcome_of end_of
    written = ap (λ (x : Outcome). x.end.entries) o ∙ ap (λ (x : Plan). length x.entries) cut_is ∙ length-take-le m p.entries (omega arith)

    pub passable : run.end.entries ≤ length p.entries
    passable = omega (arith, written, short)

    pub mixed_is : (after : List ℕ) → after ≡ words_left p chunk ws → (q : Planner) → Passed run.end.entries (coming_of p) q → (r : Digests) → r ≡ stepped_from run.entries (coming q) (bank_from after) → r ≡ stepped_of p b
    unfolding outcome_of
    mixed_is after a q h r s =
        let es = take m p.entries in
        let n = rw written at h in
        let standing_is : run.entries ≡ digest_of (plan_words es) = ap (λ (x : Outcome). x.entries) o ∙ ap (λ (x : Plan). digest_of (plan_words x.entries)) cut_is in
        let after_is : after ≡ bank_numbers (bank_after b es) = a ∙ ap (λ (x : Plan). words_after ws (x.entries ++ x.left)) cut_is ∙ ap (words_after ws) (append-nil es) ∙ ap (λ (x : List ℕ). words_after x es) w ∙ words_after_lem es b fits.eight in
        let bank_is : bank_from after ≡ bank_after b es = ap bank_from after_is ∙ bank_back (bank_after b es) (after_fits es b fits n.narrow) in
        s ∙ rw (standing_is, n.rest, bank_is) (joined m p b (omega (arith, short)))

-- ---- all of a record

pub entries_are : (p : Plan) (end : End) → end ≡ end_of p → end.entries ≡ length p.entries
unfolding end_of
entries_are p end e = ap (λ (x : End). x.entries) e

module _ (p : Plan) (room chunk : ℕ) (b : Bank) (run : Outcome) (end : End) (steps : Digests) (r : run ≡ outcome_of p room (bank_numbers b)) (e : end ≡ end_of p) (s : steps ≡ stepped_of p b) where
  all_is : (d : Option Digests) → d ≡ mixed_of p chunk b → record { run = run; end = end; steps = steps; mixed = d } ≡ replayed_of p room chunk b
  unfolding replayed_of
  all_is d i = λ j. record { run = r j; end = e j; steps = s j; mixed = i j }

  test_is : (t : Bool) → t ≡ ltb (chunk / 11) end.entries → ltb (chunk / 11) (length p.entries) ≡ t
  test_is t h = ap (ltb (chunk / 11)) (sym (entries_are p end e)) ∙ sym h

  -- steps are mixed with a run where the plan is longer than the chunk
  pub replayed : (d : Option Digests) → is_some d ≡ ltb (chunk / 11) end.entries → IfSome d (λ x. x ≡ stepped_of p b) → record { run = run; end = end; steps = steps; mixed = d } ≡ replayed_of p room chunk b
  unfolding mixed_of
  replayed (Some d) h i = all_is (Some d) (ap Some i ∙ rw (test_is true h))
  replayed None h i = all_is None (rw (test_is false h))
