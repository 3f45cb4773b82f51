-- The rectangles measured so far, in the buffer's words, and those that are still to come.
-- Assumes nothing.
use Rattle.std.proofs.Common.{◌≡◌, refl, sym, ap, ◌∙◌, List, [], ◌∷◌, ◌++◌, append_assoc, ℕ, ◌+◌, ◌-◌, ◌*◌, ◌≤◌, arith, length, take, drop, length-append, take_at, drop_at, take_all, drop-drop}
use Rattle.std.proofs.Math.Seq.{paste}
use Rattle.std.proofs.lemmas.List.Edits.{length-paste}
use Rattle.plan.specs.declared.types.Entry.{Entry}
use Rattle.plan.specs.Demand as demand
use Rattle.plan.specs.Demand.{Drift}
use Rattle.planner.specs.Planner.{Planner}
use Rattle.planner.specs.Coming.{coming}
use Rattle.small.specs.Small.{AllSmall}
use Rattle.ruler.specs.declared.types.Ruler.{Ruler}
use Rattle.ruler.specs.declared.types.Place.{Place}
use Rattle.ruler.specs.declared.types.Begun.{Begun}
use Rattle.ruler.specs.Drifts.{drifts_from, place_of, SoundPlace}
use Rattle.measuring.specs.Host.{begun_words, drift_words, Next}

-- ---- words

words_more : (d : Drift) (bs : List demand.Begun) (b : demand.Begun) → drift_words d (bs ++ b ∷ []) ≡ drift_words d bs ++ begun_words d b
unfolding drift_words
words_more d [] b = refl
words_more d (a ∷ bs) b = ap (λ (ws : List ℕ). begun_words d a ++ ws) (words_more d bs b)

words_long : (d : Drift) (bs : List demand.Begun) → length (drift_words d bs) ≡ 5 * length bs
unfolding drift_words
words_long d [] = refl
words_long d (b ∷ bs) = omega (arith, words_long d bs)

-- the buffer with five more words
paste_more : (xs ws buf : List ℕ) (a : ℕ) → length ws ≡ 5 → length xs ≡ a → paste (xs ++ drop a buf) a ws 5 ≡ (xs ++ ws) ++ drop (a + 5) buf
paste_more xs ws buf a w l =
    ap (λ (h : List ℕ). (h ++ take 5 ws) ++ drop (a + 5) (xs ++ drop a buf)) (take_at xs (drop a buf) a l)
    ∙ ap (λ (h : List ℕ). (xs ++ h) ++ drop (a + 5) (xs ++ drop a buf)) (take_all 5 ws (omega arith))
    ∙ ap (λ (h : List ℕ). (xs ++ ws) ++ h) (sym (drop-drop 5 a (xs ++ drop a buf)) ∙ ap (drop 5) (drop_at xs (drop a buf) a l) ∙ drop-drop 5 a buf)

-- ---- the loop

-- `given` is in the buffer, the rest is to come
pub record Going (r : Ruler) (es : List Entry) (buf out : List ℕ) (p : Planner) (place : Place) (n : ℕ) : Type 0 where
  pub given : List demand.Begun
  pub whole : drifts_from r (place_of r) es ≡ given ++ drifts_from r place (coming p).entries
  pub count : n ≡ length given
  pub fits : 5 * length given ≤ length buf
  pub same : length out ≡ length buf
  pub buffer : out ≡ drift_words r given ++ drop (5 * length given) buf
  pub small : AllSmall (coming p).entries
  pub at : SoundPlace r place

pub going_start : (r : Ruler) (p : Planner) (buf : List ℕ) (place : Place) → AllSmall (coming p).entries → place ≡ place_of r → SoundPlace r place → Going r (coming p).entries buf buf p place 0
unfolding drift_words
going_start r p buf place a e h =
    record { given = []; whole = ap (λ (x : Place). drifts_from r x (coming p).entries) (sym e); count = refl; fits = omega arith; same = refl; buffer = refl; small = a; at = h }

module _ {r : Ruler} {es : List Entry} {buf out : List ℕ} {p : Planner} {place : Place} {n : ℕ} (g : Going r es buf out p place n) where
  pub going_more : (b : Begun) (s : Place) (q : Planner) (out' : List ℕ) → Next r place p b s q → 5 ≤ length out - n * 5 → out' ≡ paste out (n * 5) (begun_words r b) 5 → Going r es buf out' q s (n + 1)
  going_more b s q out' h room e =
      let bs = g.given in
      let ws = begun_words r b in
      let c = g.count in
      let m = g.same in
      let len : length (bs ++ b ∷ []) ≡ length bs + 1 = length-append bs (b ∷ []) in
      let at : 5 * length bs ≡ n * 5 = omega arith in
      let d : n * 5 + 5 ≡ 5 * length (bs ++ b ∷ []) = omega arith in
      record {
        given = bs ++ b ∷ [];
        whole = g.whole ∙ ap (λ (l : List demand.Begun). bs ++ l) h.is ∙ sym (append_assoc bs (b ∷ []) (drifts_from r s (coming q).entries));
        count = omega arith;
        fits = omega (arith, g.fits);
        same = ap length e ∙ length-paste out (n * 5) ws 5 (omega arith) (omega arith) ∙ m;
        buffer =
            e
            ∙ ap (λ (x : List ℕ). paste x (n * 5) ws 5) (g.buffer ∙ ap (λ (k : ℕ). drift_words r bs ++ drop k buf) at)
            ∙ paste_more (drift_words r bs) ws buf (n * 5) refl (words_long r bs ∙ at)
            ∙ ap (λ (x : List ℕ). x ++ drop (n * 5 + 5) buf) (sym (words_more r bs b))
            ∙ ap (λ (k : ℕ). drift_words r (bs ++ b ∷ []) ++ drop k buf) d;
        small = h.rest.small;
        at = h.next;
      }
