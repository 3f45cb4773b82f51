-- What passes the test is sound; a sound planner's words pass it, and give the planner back.
-- Assumes nothing.
use mathlib.Core.Path.{◌≡◌, sym, ap, ◌∙◌, refl, subst}
use mathlib.Core.Bool.{Bool, true, false, cond, ◌&&◌, true≢false}
use mathlib.Core.List.{List}
use Prim.Native.Nat.{ℕ, ◌+◌, ◌≤◌, ◌^◌}
use lib.ListN.{length, get_or}
use lib.Dec.{ltb, eqb}
use Rattle.std.proofs.lemmas.Bool.{and_parts}
use Rattle.std.specs.Prelude.{None}
use Rattle.std.specs.Bool.{then_some}
use Rattle.std.specs.Cmp.Lexicographic.{pointwise, same_text, other_text}
use Rattle.object.specs.declared.types.Verdict.{Verdict}
use Rattle.object.specs.declared.types.Verdict.TheVariants as verdict
use Rattle.checks.specs.Check.{verdict_number}
use Rattle.copy.specs.declared.types.Due.TheVariants as due
use Rattle.copy.specs.declared.types.Stage as copy_stage
use Rattle.copy.specs.declared.types.Stage.TheVariants as stage
use Rattle.copy.specs.declared.types.Place as copy_place
use Rattle.copy.specs.Walk.{start_at, SoundPlace}
use Rattle.copy.specs.Walk as walk
use Rattle.copy.specs.Kept.{left_copy}
use Rattle.loads.specs.declared.types.Stage as pass_stage
use Rattle.loads.specs.declared.types.Stage.TheVariants as scaled_stage
use Rattle.loads.specs.declared.types.Place as pass_place
use Rattle.loads.specs.Sound.{left_at}
use Rattle.words.specs.declared.count.Counts.{Counts}
use Rattle.words.specs.Counts.{Countable}
use Rattle.planner.specs.declared.types.Course.{Course}
use Rattle.planner.specs.declared.types.Course.TheVariants as course
use Rattle.planner.specs.Planner.{Planner}
use Rattle.planner.specs.Planner.{Sound}
use Rattle.planner.specs.Planner.{planner_at}
use Rattle.stored_fields.proofs.Laws.{each, counts_yes, counts_no}
use Rattle.stored_fields.specs.Test.{counts_test}
use Rattle.stored_copy.specs.Course.{copy_words, copy_from, copy_test, place_test}
use Rattle.stored_copy.proofs.Laws.{copy_yes, copy_no, copy_back, place_yes, place_no, place_back}
use Rattle.stored_copy.specs.Course as copied
use Rattle.stored_scaled.specs.Course.{scaled_words, FitsPlace, stage_test}
use Rattle.stored_scaled.proofs.Laws.{stage_yes, stage_no, scaled_back, start_at_lem}
use Rattle.stored_scaled.specs.Course as passed
use Rattle.stored.specs.Stored.{StoredIs, LoadedIs, stored_of, over_words, course_words, FitsCourse, WordsOf, verdict_from, counts_from, course_from, planner_from, sound_test}

-- ---- what passes the test is sound

over_made : (v : Verdict) (n : Counts) → counts_test n 0 ≡ true → Sound (planner_at (course.Over v) n)
over_made v n u = let c = counts_yes n 0 u in record { course = tt; counts = c.counts; few = c.few }

start_made : (ws : List ℕ) (n : Counts) → (copy_test ws && counts_test n 5242881) ≡ true → Sound (planner_at (course.Copy (stage.Strip due.Image) (start_at (copy_from ws))) n)
start_made ws n t =
    let e = and_parts _ _ t in
    let c = counts_yes n 5242881 e.1 in
    record { course = record { copy = copy_yes ws e.0; is = refl }; counts = c.counts; few = c.few }

-- at every stage but the start's a place asks the same
sound_place : (k : ℕ) (q : copy_place.Place) → SoundPlace q → walk.SoundAt (copied.stage_from k) q
sound_place k q h = by (eqb k 2) (eqb k 3) (eqb k 4) (eqb k 5) (eqb k 6)
  where
    by : (a b c d e : Bool) → walk.SoundAt (cond a (stage.Strip due.Rect) (cond b stage.Tile7 (cond c stage.Tile0 (cond d stage.Size (cond e stage.Load stage.Done))))) q
    by true b c d e = h
    by false true c d e = h
    by false false true d e = h
    by false false false true e = h
    by false false false false true = h
    by false false false false false = h

place_made : (k : ℕ) (ws : List ℕ) (n : Counts) → (place_test ws && counts_test n (left_copy (copied.stage_from k) (copied.place_from ws))) ≡ true → Sound (planner_at (course.Copy (copied.stage_from k) (copied.place_from ws)) n)
place_made k ws n t =
    let e = and_parts _ _ t in
    let c = counts_yes n _ e.1 in
    record { course = sound_place k (copied.place_from ws) (place_yes ws e.0); counts = c.counts; few = c.few }

scaled_made : (s : pass_stage.Stage) (ws : List ℕ) (n : Counts) → (stage_test s ws && counts_test n (left_at s (passed.place_from ws))) ≡ true → Sound (planner_at (course.Scaled s (passed.place_from ws)) n)
scaled_made s ws n t =
    let e = and_parts _ _ t in
    let c = counts_yes n _ e.1 in
    record { course = stage_yes s ws e.0; counts = c.counts; few = c.few }

pub test_sound : (ws : List ℕ) → sound_test ws ≡ true → Sound (planner_from ws)
unfolding sound_test course_from
test_sound ws = by (eqb (get_or ws 0 0) 0) (eqb (get_or ws 0 0) 1) (ltb (get_or ws 0 0) 8)
  where
    k : ℕ
    k = get_or ws 0 0

    n : Counts
    n = counts_from ws

    by : (a b c : Bool)
        → cond a (counts_test n 0) (cond b (copy_test ws && counts_test n 5242881) (cond c (place_test ws && counts_test n (left_copy (copied.stage_from k) (copied.place_from ws))) (stage_test (passed.stage_from k) ws && counts_test n (left_at (passed.stage_from k) (passed.place_from ws))))) ≡ true
        → Sound (planner_at (cond a (course.Over (verdict_from (get_or ws 5 0))) (cond b (course.Copy (stage.Strip due.Image) (start_at (copy_from ws))) (cond c (course.Copy (copied.stage_from k) (copied.place_from ws)) (course.Scaled (passed.stage_from k) (passed.place_from ws))))) n)
    by true b c t = over_made (verdict_from (get_or ws 5 0)) n t
    by false true c t = start_made ws n t
    by false false true t = place_made k ws n t
    by false false false t = scaled_made (passed.stage_from k) ws n t

-- ---- a sound planner's words pass it, and give the planner back

pub record Returns (p : Planner) (ws : List ℕ) : Type 0 where
  pub test : sound_test ws ≡ true
  pub back : planner_from ws ≡ p

pub verdict_back : (v : Verdict) → verdict_from (verdict_number v) ≡ v
verdict_back verdict.Finished = refl
verdict_back verdict.Opcode = refl
verdict_back verdict.Short = refl
verdict_back verdict.Scissor = refl
verdict_back verdict.Object = refl
verdict_back verdict.Copy = refl
verdict_back verdict.Slices = refl
verdict_back verdict.TooBig = refl
verdict_back verdict.Piece = refl
verdict_back verdict.Address = refl
verdict_back verdict.Full = refl

over_returns : (v : Verdict) (n : Counts) → Sound (planner_at (course.Over v) n) → Returns (planner_at (course.Over v) n) (over_words v n)
unfolding sound_test course_from over_words
over_returns v n s = record { test = counts_no n 0 s.counts s.few; back = ap (λ (w : Verdict). planner_at (course.Over w) n) (verdict_back v) }

start_returns : (p : copy_place.Place) (n : Counts) → Sound (planner_at (course.Copy (stage.Strip due.Image) p) n) → Returns (planner_at (course.Copy (stage.Strip due.Image) p) n) (copy_words (stage.Strip due.Image) p n)
unfolding sound_test course_from copy_words
start_returns p n s =
    let i = stage.Strip due.Image in
    record {
      test = each _ _ (copy_no i p n s.course.copy) (counts_no n 5242881 s.counts (subst (λ (q : copy_place.Place). n.entries + left_copy i q ≤ 2 ^ 40) s.course.is s.few));
      back = ap (λ (c : _). planner_at (course.Copy i (start_at c)) n) (copy_back i p n s.course.copy) ∙ ap (λ (q : copy_place.Place). planner_at (course.Copy i q) n) (sym s.course.is);
    }

-- the stages of a place, by their numbers
module _ (s : copy_stage.Stage) (p : copy_place.Place) (n : Counts) (h : SoundPlace p) (c : Countable n) (few : n.entries + left_copy s p ≤ 2 ^ 40) where
  place_test_lem : (place_test (copy_words s p n) && counts_test n (left_copy s (copied.place_from (copy_words s p n)))) ≡ true
  place_test_lem = each _ _ (place_no s p n h) (ap (λ (q : copy_place.Place). counts_test n (left_copy s q)) (place_back s p n h.copy) ∙ counts_no n (left_copy s p) c few)

  place_is : planner_at (course.Copy s (copied.place_from (copy_words s p n))) n ≡ planner_at (course.Copy s p) n
  place_is = ap (λ (q : copy_place.Place). planner_at (course.Copy s q) n) (place_back s p n h.copy)

copy_returns : (s : copy_stage.Stage) (p : copy_place.Place) (n : Counts) → Sound (planner_at (course.Copy s p) n) → Returns (planner_at (course.Copy s p) n) (copy_words s p n)
unfolding sound_test course_from copy_words
copy_returns (stage.Strip due.Image) p n s = start_returns p n s
copy_returns (stage.Strip due.Rect) p n s = let i = stage.Strip due.Rect in record { test = place_test_lem i p n s.course s.counts s.few; back = place_is i p n s.course s.counts s.few }
copy_returns stage.Tile7 p n s = record { test = place_test_lem stage.Tile7 p n s.course s.counts s.few; back = place_is stage.Tile7 p n s.course s.counts s.few }
copy_returns stage.Tile0 p n s = record { test = place_test_lem stage.Tile0 p n s.course s.counts s.few; back = place_is stage.Tile0 p n s.course s.counts s.few }
copy_returns stage.Size p n s = record { test = place_test_lem stage.Size p n s.course s.counts s.few; back = place_is stage.Size p n s.course s.counts s.few }
copy_returns stage.Load p n s = record { test = place_test_lem stage.Load p n s.course s.counts s.few; back = place_is stage.Load p n s.course s.counts s.few }
copy_returns stage.Done p n s = record { test = place_test_lem stage.Done p n s.course s.counts s.few; back = place_is stage.Done p n s.course s.counts s.few }

module _ (s : pass_stage.Stage) (p : pass_place.Place) (n : Counts) (f : FitsPlace p) (h : Sound (planner_at (course.Scaled s p) n)) where
  is_back : passed.place_from (scaled_words s p n) ≡ p
  is_back = scaled_back s p n f (start_at_lem s p h.course)

  scaled_test : (stage_test s (scaled_words s p n) && counts_test n (left_at s (passed.place_from (scaled_words s p n)))) ≡ true
  scaled_test = each _ _ (stage_no s p n f h.course) (ap (λ (q : pass_place.Place). counts_test n (left_at s q)) is_back ∙ counts_no n (left_at s p) h.counts h.few)

  scaled_is : planner_at (course.Scaled s (passed.place_from (scaled_words s p n))) n ≡ planner_at (course.Scaled s p) n
  scaled_is = ap (λ (q : pass_place.Place). planner_at (course.Scaled s q) n) is_back

scaled_returns : (s : pass_stage.Stage) (p : pass_place.Place) (n : Counts) → FitsPlace p → Sound (planner_at (course.Scaled s p) n) → Returns (planner_at (course.Scaled s p) n) (scaled_words s p n)
unfolding sound_test course_from scaled_words
scaled_returns scaled_stage.First p n f h = record { test = scaled_test scaled_stage.First p n f h; back = scaled_is scaled_stage.First p n f h }
scaled_returns scaled_stage.Second p n f h = record { test = scaled_test scaled_stage.Second p n f h; back = scaled_is scaled_stage.Second p n f h }
scaled_returns scaled_stage.Whole p n f h = record { test = scaled_test scaled_stage.Whole p n f h; back = scaled_is scaled_stage.Whole p n f h }
scaled_returns scaled_stage.WholeLoad p n f h = record { test = scaled_test scaled_stage.WholeLoad p n f h; back = scaled_is scaled_stage.WholeLoad p n f h }
scaled_returns scaled_stage.Tile p n f h = record { test = scaled_test scaled_stage.Tile p n f h; back = scaled_is scaled_stage.Tile p n f h }
scaled_returns scaled_stage.Image p n f h = record { test = scaled_test scaled_stage.Image p n f h; back = scaled_is scaled_stage.Image p n f h }
scaled_returns scaled_stage.Load p n f h = record { test = scaled_test scaled_stage.Load p n f h; back = scaled_is scaled_stage.Load p n f h }
scaled_returns scaled_stage.Last p n f h = record { test = scaled_test scaled_stage.Last p n f h; back = scaled_is scaled_stage.Last p n f h }
scaled_returns scaled_stage.Size p n f h = record { test = scaled_test scaled_stage.Size p n f h; back = scaled_is scaled_stage.Size p n f h }
scaled_returns scaled_stage.Rect p n f h = record { test = scaled_test scaled_stage.Rect p n f h; back = scaled_is scaled_stage.Rect p n f h }

course_returns : (w : Course) (n : Counts) → FitsCourse w → Sound (planner_at w n) → Returns (planner_at w n) (course_words w n)
course_returns (course.Copy s p) n f h = copy_returns s p n h
course_returns (course.Scaled s p) n f h = scaled_returns s p n f h
course_returns (course.Over v) n f h = over_returns v n h

pub words_return : (p : Planner) (ws : List ℕ) → WordsOf p ws → Returns p ws
words_return p ws h = subst (Returns p) (sym h.stored.is) (course_returns p.course p.counts h.stored.fits h.sound)

-- so words are those of one planner at the most
pub one_planner : (p q : Planner) (ws : List ℕ) → WordsOf p ws → WordsOf q ws → p ≡ q
one_planner p q ws h k = sym (words_return p ws h).back ∙ (words_return q ws k).back

-- words that pass the test are their planner's where they are its words, and else no planner's
pub loaded : (ws own : List ℕ) (same : Bool) → sound_test ws ≡ true → StoredIs (planner_from ws) own → same ≡ pointwise eqb ws own → LoadedIs ws (then_some same (planner_from ws))
loaded ws own true t s e = record { stored = record { is = same_text ws own e ∙ s.is; fits = s.fits }; sound = test_sound ws t }
loaded ws own false t s e = λ p h. other_text ws own e (h.stored.is ∙ sym (ap stored_of (words_return p ws h).back) ∙ sym s.is)

-- words that do not pass it are no planner's
pub no_words : (ws : List ℕ) → sound_test ws ≡ false → LoadedIs ws None
no_words ws t = λ p h. true≢false (sym (words_return p ws h).test ∙ t)

pub thirty_nine : (w : Course) (n : Counts) → length (course_words w n) ≡ 39
unfolding copy_words scaled_words over_words
thirty_nine (course.Copy s p) n = refl
thirty_nine (course.Scaled s p) n = refl
thirty_nine (course.Over v) n = refl
