-- From one step of a course to one step of the planner: the counts and the bank go with the entry.
-- Assumes nothing.
use Rattle.std.specs.Prelude.{◌≡◌, refl, Result, Ok, Err, Option, Some, None, IfSome, MatchOption, List, [], ◌∷◌, ℕ, suc, ◌≤◌, ◌<◌, length, drop}
use Rattle.std.proofs.Math.Path.{sym, ap, subst}
use Rattle.std.proofs.Common.{◌∙◌}
use Rattle.std.specs.Option.{option_to_list}
use native.Mathlib.Omega.{arith}
use Rattle.object.specs.declared.types.Verdict.{Verdict}
use Rattle.object.specs.declared.types.Verdict.TheVariants as verdict
use Rattle.tile.specs.declared.bank.Bank.{Bank}
use Rattle.plan.specs.declared.types.Entry.{Entry}
use Rattle.plan.specs.declared.types.End.{End}
use Rattle.plan.specs.Out.{Plan}
use Rattle.plan.specs.Next.{cons, ended, Follows}
use Rattle.plan.specs.Sound.{EntryIn, Narrow}
use Rattle.plan.specs.Run.{bank_step, bank_after}
use Rattle.plan.specs.Steps.{Coming, next_of, answer_of, bank_next}
use Rattle.copy.specs.declared.types.Stage.{Stage}
use Rattle.copy.specs.declared.types.Place.{Place}
use Rattle.copy.specs.declared.types.CopyEnd.TheVariants as copied
use Rattle.copy.specs.Walk.{CopyStep, copy_next_of, as_next}
use Rattle.copy.specs.Small.{NextIn, next_in}
use Rattle.copy.specs.Coming.{coming_copy, coming_walk, copy_follows}
use Rattle.copy.specs.Kept.{left_copy, Kept, copy_kept}
use Rattle.loads.specs.declared.types.Stage as scaled
use Rattle.loads.specs.declared.types.Place as scaled_place
use Rattle.loads.specs.declared.types.Refused.{Refused}
use Rattle.loads.specs.Coming.{Reached, coming_scaled, coming_reached}
use Rattle.loads.specs.Sound.{SoundReached, left_at, left_reached, Gave}
use Rattle.words.specs.declared.count.Counts.{Counts}
use Rattle.words.specs.Counts.{counted_of, counted_all, end_with}
use Rattle.words.proofs.CountsLaws.{counted_countable, counted_entries}
use Rattle.planner.specs.declared.types.Course.{Course}
use Rattle.planner.specs.declared.types.Course.TheVariants as course
use Rattle.planner.specs.Planner.{Planner, planner_at, SoundCourse, left_course, Sound}
use Rattle.planner.specs.declared.types.Stop.{Stop}
use Rattle.planner.specs.declared.types.Step.{Step}
use Rattle.planner.specs.Coming.{coming_course, coming_from, coming, counts_next, answer_in, left_in, left_next, StepGives, StepIs, give_of, stop_of, course_of}

-- what is to come of a planner whose plan starts with e
given_answer : (p : Plan) (n : Counts) (e : Entry) (q : Plan) → p ≡ cons e q → answer_of (coming_from p n).entries (coming_from p n).end ≡ Ok e
given_answer p n e q i = rw i

-- an entry is given
module _ (w w' : Course) (n : Counts) (e : Entry) (i : coming_course w ≡ cons e (coming_course w')) where
  given_left : ◌≡◌ {A = List Entry} [] (left_next (coming_from (coming_course w) n).entries (coming_from (coming_course w) n).left)
  given_left = rw i

  given_rest : coming_from (coming_course w') (counted_of n e) ≡ next_of (coming_from (coming_course w) n).entries (coming_from (coming_course w) n).left (coming_from (coming_course w) n).end
  unfolding counted_all
  given_rest = rw i

  given_counts : counted_of n e ≡ counts_next (coming_from (coming_course w) n).entries n
  given_counts = rw i

  given_more : (coming_from (coming_course w) n).entries ≡ [] → ⊥
  given_more h = let k : e ∷ (coming_course w').entries ≡ [] = rw i at h in let z : ◌≡◌ {A = ℕ} 0 1 = cc in omega arith

  pub step_given : EntryIn e → SoundCourse w' → suc (left_course w') ≤ left_course w → Sound (planner_at w n) → StepGives (planner_at w n) (give_of w' n e)
  unfolding coming
  step_given a s l h =
      let f = h.few in
      let k = counted_entries n e in
      record {
        answer = sym (given_answer (coming_course w) n e (coming_course w') i);
        left = given_left;
        ranges = a;
        rest = given_rest;
        counts = given_counts;
        over = λ h. absurd (given_more h);
        sound = record { course = s; counts = counted_countable n e h.counts (omega arith) a.line; few = omega arith };
      }

-- the end, and what a refused load has set
module _ (w : Course) (n : Counts) (v : Verdict) (size : Option Entry) (i : coming_course w ≡ ended (option_to_list size) v) where
  stopped_answer : Err (end_with n v) ≡ answer_of (coming_from (coming_course w) n).entries (coming_from (coming_course w) n).end
  unfolding counted_all
  stopped_answer = rw i

  stopped_left : option_to_list size ≡ left_next (coming_from (coming_course w) n).entries (coming_from (coming_course w) n).left
  stopped_left = rw i

  stopped_rest : coming_from (ended [] v) n ≡ next_of (coming_from (coming_course w) n).entries (coming_from (coming_course w) n).left (coming_from (coming_course w) n).end
  unfolding counted_all
  stopped_rest = rw i

  stopped_counts : n ≡ counts_next (coming_from (coming_course w) n).entries n
  stopped_counts = rw i

  pub step_stopped : IfSome size Narrow → Sound (planner_at w n) → StepGives (planner_at w n) (stop_of n v size)
  unfolding coming
  step_stopped t h =
      let f = h.few in
      record {
        answer = stopped_answer;
        left = stopped_left;
        ranges = t;
        rest = stopped_rest;
        counts = stopped_counts;
        over = λ h. ap (λ (q : Plan). course.Over q.verdict) (sym i);
        sound = record { course = tt; counts = h.counts; few = omega arith };
      }

-- after the end it is the same end
pub step_over : {p : Planner} {w : Course} {n : Counts} {v : Verdict} {r : Step} → Sound (planner_at w n) → planner_at w n ≡ p → w ≡ course.Over v → r ≡ stop_of n v None → StepGives p r
step_over {p} {w} {n} {v} {r} h i j k = subst (λ (p : Planner). StepGives p r) i (rw (j, k) (step_stopped (course.Over v) n v None refl tt (rw j at h)))

-- where no entry is to come, the end has the counts so far
pub counts_at_end : (p : Planner) → (coming p).entries ≡ [] → (coming p).end ≡ end_with p.counts (coming p).end.verdict
unfolding coming counted_all
counts_at_end p none = ap (λ (es : List Entry). end_with (counted_all p.counts es) (coming_course p.course).verdict) none

-- ---- copy

-- the step that an answer of the walk makes
abbrev pub copy_step_of : Counts → CopyStep → Step
copy_step_of n (Ok q) = give_of (course.Copy q.1 q.2) n q.0
copy_step_of n (Err copied.TooBig) = stop_of n verdict.TooBig None
copy_step_of n (Err (copied.Overflow e)) = stop_of n verdict.Address (Some e)
copy_step_of n (Err copied.Finished) = stop_of n verdict.Finished None

pub step_copy : {s : Stage} {p : Place} {n : Counts} {r : CopyStep} → r ≡ copy_next_of s p → Sound (planner_at (course.Copy s p) n) → StepGives (planner_at (course.Copy s p) n) (copy_step_of n r)
step_copy {s} {p} {n} {r} i h = by r (rw (← i) at (copy_follows s p h.course)) (rw (← i) at (copy_kept s p h.course)) (rw (← i) at (next_in s p h.course))
  where
    by : (r : CopyStep) → Follows coming_walk (coming_copy s p) (as_next r) → Kept (left_copy s p) (as_next r) → NextIn r → StepGives (planner_at (course.Copy s p) n) (copy_step_of n r)
    by (Ok q) f k t = step_given (course.Copy s p) (course.Copy q.1 q.2) n q.0 f t k.sound k.less h
    by (Err copied.TooBig) f k t = step_stopped (course.Copy s p) n verdict.TooBig None f tt h
    by (Err (copied.Overflow e)) f k t = step_stopped (course.Copy s p) n verdict.Address (Some e) f t h
    by (Err copied.Finished) f k t = step_stopped (course.Copy s p) n verdict.Finished None f tt h

-- ---- scaled

-- what the walk reaches, as a course
reached_is : (r : Reached) → coming_course (course_of r) ≡ coming_reached r
reached_is (Ok q) = refl
reached_is (Err v) = refl

reached_sound : (r : Reached) → SoundReached r → SoundCourse (course_of r)
reached_sound (Ok q) h = h
reached_sound (Err v) h = tt

reached_left : (r : Reached) (n : ℕ) → suc (left_reached r) ≤ n → suc (left_course (course_of r)) ≤ n
reached_left (Ok q) n h = h
reached_left (Err v) n h = h

-- the step that an answer of the walk makes
abbrev pub scaled_step_of : Counts → Result (Entry × Reached) Refused → Step
scaled_step_of n (Ok q) = give_of (course_of q.1) n q.0
scaled_step_of n (Err r) = stop_of n verdict.Address (Some r.0)

pub step_scaled : {s : scaled.Stage} {p : scaled_place.Place} {n : Counts} {r r' : Result (Entry × Reached) Refused} → Gave (coming_scaled s p) (left_at s p) r → r ≡ r' → Sound (planner_at (course.Scaled s p) n)
    → StepGives (planner_at (course.Scaled s p) n) (scaled_step_of n r')
step_scaled {s} {p} {n} {r} {r'} g i h = by r' (rw i at g)
  where
    by : (r : Result (Entry × Reached) Refused) → Gave (coming_scaled s p) (left_at s p) r → StepGives (planner_at (course.Scaled s p) n) (scaled_step_of n r)
    by (Ok q) g = step_given (course.Scaled s p) (course_of q.1) n q.0 (g.0 ∙ ap (cons q.0) (sym (reached_is q.1))) g.1.1.1 (reached_sound q.1 g.1.0) (reached_left q.1 (left_at s p) g.1.1.0) h
    by (Err x) g = step_stopped (course.Scaled s p) n verdict.Address (Some x.0) g.0 g.1 h

-- ---- what a step gives says of what is to come

pub came : (es : List Entry) (x : End) (e : Entry) → answer_of es x ≡ Ok e → es ≡ e ∷ drop 1 es
came [] x e i = let z : ◌≡◌ {A = ℕ} 0 1 = cc in absurd (omega arith)
came (y ∷ es) x e i = let k : y ≡ e = cc in ap (λ (d : Entry). d ∷ es) k

pub ended_there : (es : List Entry) (x e : End) → answer_of es x ≡ Err e → (es ≡ []) × (e ≡ x)
ended_there [] x e i = let k : x ≡ e = cc in (refl, sym k)
ended_there (y ∷ es) x e i = let z : ◌≡◌ {A = ℕ} 0 1 = cc in absurd (omega arith)

-- the bank with the size that a refused load has set, where P says what is known of a size that is set
sized : (b b' : Bank) (P : Entry → Type 0) (size : Option Entry) → ((e : Entry) → P e → b' ≡ bank_step b e) → MatchOption size (b' ≡ b) P → b' ≡ bank_after b (option_to_list size)
unfolding bank_after
sized b b' P (Some e) k j = k e j
sized b b' P None k j = j

module _ (p : Planner) (s : Step) (i : StepGives p s) where
  pub gave_entry : (e : Entry) → s.given ≡ Ok e → (coming p).entries ≡ e ∷ drop 1 (coming p).entries
  gave_entry e g = came (coming p).entries (coming p).end e (sym i.answer ∙ ap answer_in g)

  -- the planner has the rest to come
  pub gave_rest : (e : Entry) → s.given ≡ Ok e → coming s.planner ≡ record { entries = drop 1 (coming p).entries; left = (coming p).left; end = (coming p).end }
  gave_rest e g = i.rest ∙ ap (λ (es : List Entry). next_of es (coming p).left (coming p).end) (gave_entry e g)

  -- one entry less is to come
  pub gave_fewer : (e : Entry) → s.given ≡ Ok e → length (coming s.planner).entries < length (coming p).entries
  gave_fewer e g = omega (arith, ap (λ (c : Coming). length c.entries) (gave_rest e g), ap length (gave_entry e g), longer e (drop 1 (coming p).entries))
    where
      longer : (e : Entry) (es : List Entry) → length (e ∷ es) ≡ suc (length es)
      longer e es = refl

  -- the end: no entries, the end itself, and the sizes that are set
  pub gave_end : (x : Stop) → s.given ≡ Err x → ((coming p).entries ≡ []) × ((x.end ≡ (coming p).end) × ((coming p).left ≡ left_in (Err x)))
  gave_end x g =
      let t = ended_there (coming p).entries (coming p).end x.end (sym i.answer ∙ ap answer_in g) in
      (t.0, (t.1, ap (λ (es : List Entry). left_next es (coming p).left) (sym t.0) ∙ sym i.left ∙ ap left_in g))

  -- a step with a bank
  pub with_entry : (b : Bank) (e : Entry) → s.given ≡ Ok e → (b' : Bank) → b' ≡ bank_step b e → StepIs p b (record { planner = s.planner; bank = b'; answer = Ok e })
  with_entry b e g b' k =
      record {
        answer = sym (ap answer_in g) ∙ i.answer;
        rest = i.rest;
        bank = k ∙ ap (λ (es : List Entry). bank_next es (coming p).left b) (sym (gave_entry e g));
        counts = i.counts;
        sound = i.sound;
      }

  pub with_end : (b : Bank) (x : Stop) → s.given ≡ Err x → (b' : Bank) (P : Entry → Type 0) → ((e : Entry) → P e → b' ≡ bank_step b e) → MatchOption x.size (b' ≡ b) P → StepIs p b (record { planner = s.planner; bank = b'; answer = Err x.end })
  with_end b x g b' P k j =
      let t = gave_end x g in
      record {
        answer = sym (ap answer_in g) ∙ i.answer;
        rest = i.rest;
        bank = sized b b' P x.size k j ∙ ap (bank_after b) (sym t.1.1) ∙ ap (λ (es : List Entry). bank_next es (coming p).left b) (sym t.0);
        counts = i.counts;
        sound = i.sound;
      }
