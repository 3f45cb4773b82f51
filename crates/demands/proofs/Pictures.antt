-- Objects of pictures over the planner's own steps and a run of it: each is the plan's answers, and of the plan it is proved in crates/picture.
-- Assumes nothing.
use Rattle.std.specs.Prelude.{◌≡◌, refl, Bool, true, false, cond, List, [], ◌∷◌, ◌++◌, ℕ, zero, suc, ◌/◌, ◌^◌, ◌≤◌, ◌<◌, ltb, eqb, length}
use Rattle.std.proofs.Common.{sym, ap, subst, ◌∙◌, arith, ltb-true, ltb-false, le-ltb}
use Rattle.object.specs.declared.types.Scissor.{Scissor}
use Rattle.object.specs.Layout.{decode, Bytes}
use Rattle.object.specs.declared.types.Verdict.TheVariants as verdict
use Rattle.checks.specs.Check.{verdict_number}
use Rattle.tile.specs.declared.bank.Bank.{Bank}
use Rattle.plan.specs.declared.types.Entry.{Entry}
use Rattle.plan.specs.declared.types.End.{End}
use Rattle.plan.specs.Out.{Plan}
use Rattle.plan.specs.Copy.{copy_of}
use Rattle.plan.specs.Run.{end_of, cut_at, rectangles, words_from}
use Rattle.plan.specs.Steps.{Answer, answers}
use Rattle.plan.specs.Whole.{plan_of}
use Rattle.copy.specs.Walk.{image_entry}
use Rattle.picture.specs.Writer.{copy_bytes, strip_rows, taller_of, full, SamePicture, wrote_of, written_number}
use Rattle.picture.proofs.Later.{later_never_7}
use Rattle.picture.proofs.Taller.{one_row_more}
use Rattle.planner.specs.Planner.{Planner}
use Rattle.planner.specs.Coming.{Fresh, request_of}
use Rattle.giving.specs.Host.{run_words}
use Rattle.runs.specs.Ran.{RanIs}
use Rattle.demands.specs.Steps.{Steps}
use Rattle.demands.specs.Pictures.{Never7, too_big_end, full_end}
use Rattle.demands.proofs.Steps.{answered_is}

-- the answers of a plan that does not end by 7
never : (n : ℕ) (es : List Entry) (e : End) → eqb (verdict_number e.verdict) 7 ≡ false → Never7 (answers n es e)
unfolding answers
never zero es e h = tt
never (suc n) [] e h = (h, never n [] e h)
never (suc n) (x ∷ es) e h = never n es e h

-- a buffer that the writer has filled
module _ (w h f z p : ℕ) (out : List ℕ) (k : p < 2 ^ 32) (e : written_number (wrote_of w h f z p out).answer ≡ 0) where
  -- no step on a later object of the picture answers an end by 7
  pub steps_never_7 : (bytes : List ℕ) (scissor : Scissor) (mode address : ℕ) (r : Planner) → Fresh bytes 10 scissor mode address r → Bytes bytes → SamePicture (decode 4 true bytes) (decode 4 true (wrote_of w h f z p out).out)
      → {b : Bank} {answered : List Answer} {r' : Planner} {b' : Bank} → Steps r b answered r' b' → Never7 answered
  unfolding end_of
  steps_never_7 bytes scissor mode address r fresh b same {answered = answered} steps =
      let q = request_of bytes 10 scissor mode address in
      subst Never7 (sym (answered_is bytes 10 scissor mode address r fresh steps)) (never (length answered) (plan_of q).entries (end_of (plan_of q)) (later_never_7 w h f z p out k e q refl b same))

  module _ (few : w ≤ 1023) (low : h ≤ 1023) (taller : strip_rows w f z < h) (rest : List ℕ) (mode address : ℕ) where
    abbrev bytes : List ℕ
    bytes = copy_bytes (taller_of w h f z p) ++ rest

    abbrev image : Entry
    image = image_entry (copy_of (taller_of w h f z p) full address)

    -- with one strip row more any number of steps answer the image entry, then the end (7, 1, 0, 0) for ever
    pub steps_taller : (r : Planner) → Fresh bytes 10 full mode address r → {b : Bank} {answered : List Answer} {r' : Planner} {b' : Bank} → Steps r b answered r' b' → answered ≡ answers (length answered) (image ∷ []) too_big_end
    unfolding end_of rectangles words_from
    steps_taller r fresh {answered = answered} steps =
        answered_is bytes 10 full mode address r fresh steps ∙ ap (λ (p : Plan). answers (length answered) p.entries (end_of p)) (one_row_more w h f z p out k e few low taller rest mode address)

    -- and a run ends so, or by 10 where its buffer has under eleven words
    pub ran_taller : (buf ws out' ws' : List ℕ) (x : End) → RanIs bytes 10 full mode address buf ws out' ws' x → x ≡ cond (ltb (length buf) 11) full_end too_big_end
    unfolding run_words end_of cut_at rectangles words_from
    ran_taller buf ws out' ws' x ran = ran.end ∙ ap (λ (p : Plan). (run_words p buf ws).end) (one_row_more w h f z p out k e few low taller rest mode address) ∙ by (ltb (length buf) 11) refl
      where
        by : (t : Bool) → ltb (length buf) 11 ≡ t → end_of (cut_at (length buf) (record { entries = image ∷ []; left = []; verdict = verdict.TooBig })) ≡ cond t full_end too_big_end
        by true t = let l = ltb-true (length buf) 11 t in let z : length buf / 11 ≡ 0 = omega arith in rw z refl
        by false t = let l = ltb-false (length buf) 11 t in rw (le-ltb (length buf / 11) 1 (omega arith)) refl
