-- What stands in the buffer after a run are the words of the entries that its end counts. Assumes nothing.
use mathlib.Core.Path.{◌≡◌, refl, ap, ◌∙◌}
use mathlib.Core.Bool.{Bool, true, false, cond}
use mathlib.Core.List.{List, []}
use Prim.Native.Nat.{ℕ, ◌+◌, ◌*◌, ◌/◌, ◌%◌, ◌<◌, ◌≤◌, min}
use native.Mathlib.Numerals.{add-one}
use native.Mathlib.Omega.{arith}
use borrow.Author.Tests.{ltb-false}
use lib.Dec.{ltb}
use lib.ListN.{length, take, drop, set, length-take}
use lib.Seq.{take_at, take-suc-set, length-take-le}
use Rattle.object.specs.declared.types.Verdict.TheVariants as verdict
use Rattle.object.specs.Layout.{read}
use Rattle.tile.specs.declared.bank.Bank.{Bank}
use Rattle.plan.specs.declared.types.End.{End}
use Rattle.plan.specs.Check.{request_at}
use Rattle.plan.specs.Out.{Plan}
use Rattle.plan.specs.Request as plan
use Rattle.plan.specs.Run.{plan_words, end_of, cut_at}
use Rattle.plan.specs.Whole.{plan_of}
use Rattle.request.specs.declared.types.Request.{Request}
use Rattle.request.specs.Host.{with_bytes}
use Rattle.words.specs.Eleven.{eleven_each}
use Rattle.giving.specs.Host.{run_words}
use Rattle.digest.specs.Fnv.{digest_of}
use Rattle.replay.specs.declared.record.Replayed.{Replayed}
use Rattle.replay.specs.Outcome.{outcome_of, words_left, words_in}
use Rattle.replay.specs.Steps.{replayed_of}

few : (t : Bool) (n : ℕ) (p : Plan) → ltb (n / 11) (length p.entries) ≡ t → 11 * length (cond t (record { entries = take (n / 11) p.entries; left = []; verdict = verdict.Full }) p).entries ≤ n
few true n p e = omega (arith, length-take (n / 11) p.entries)
few false n p e = let h = ltb-false (n / 11) (length p.entries) e in omega arith

cut_few : (n : ℕ) (p : Plan) → 11 * length (cut_at n p).entries ≤ n
unfolding cut_at
cut_few n p = few _ n p refl

module _ (p : Plan) (buf ws : List ℕ) (end : End) (e : end ≡ (run_words p buf ws).end) where
  count : end.entries ≡ length (cut_at (length buf) p).entries
  unfolding run_words end_of
  count = ap (λ (x : End). x.entries) e

  pub room : 11 * end.entries ≤ length buf
  room = omega (arith, count, cut_few (length buf) p)

  pub standing : (out : List ℕ) → out ≡ (run_words p buf ws).buffer → take (11 * end.entries) out ≡ plan_words (cut_at (length buf) p).entries
  unfolding run_words
  standing out o =
      let es = (cut_at (length buf) p).entries in
      ap (λ (n : ℕ). take (11 * n) out) count ∙ ap (take (11 * length es)) o ∙ take_at (plan_words es) (drop (11 * length es) buf) (11 * length es) (eleven_each es)

  pub outcome_is : (out after : List ℕ) (d g : ℕ) → out ≡ (run_words p buf ws).buffer → after ≡ (run_words p buf ws).bank → d ≡ digest_of (take (11 * end.entries) out) → g ≡ digest_of after
      → record { end = end; entries = d; bank = g } ≡ outcome_of p (length buf) ws
  unfolding outcome_of run_words
  outcome_is out after d g o a i j =
      λ n. record { end = e n; entries = (i ∙ ap digest_of (standing out o)) n; bank = (j ∙ ap digest_of a) n }

  pub left_is : (after : List ℕ) → after ≡ (run_words p buf ws).bank → after ≡ words_left p (length buf) ws
  unfolding run_words
  left_is after a = a

-- ---- the words of a file

pub next_word : (bs numbers : List ℕ) (k x : ℕ) → k < length numbers → take k numbers ≡ words_in k bs → x ≡ read bs (8 * k) 8 → take (k + 1) (set numbers k x) ≡ words_in (k + 1) bs
unfolding words_in
next_word bs numbers k x l t e = rw (add-one, take-suc-set numbers k x l, t, e)

-- ---- a record

pub part : (m most k : ℕ) (xs : List ℕ) → m ≡ min most k → most ≤ length xs → length (take m xs) ≡ m
part m most k xs e h = length-take-le m xs (omega arith)

pub record_is : (bs buf chunk : List ℕ) (q : Request) (b : Bank) (n m j k : ℕ) (r : Replayed) → ((n : ℕ) → with_bytes (take n bs) q ≡ request_at n bs) → n ≡ j → m ≡ min 2816 k → 2816 ≡ length buf → 121 ≡ length chunk
    → r ≡ replayed_of (plan_of (with_bytes (take n bs) q)) (length (take m buf)) (length (take (m % 121) chunk)) b → r ≡ replayed_of (plan_of (request_at j bs)) (min 2816 k) (min 2816 k % 121) b
record_is bs buf chunk q b n m j k r f e i l h o =
    let t = part m 2816 k buf i (omega arith) in
    let u = length-take-le (m % 121) chunk (omega arith) in
    o
    ∙ ap (λ (x : plan.Request). replayed_of (plan_of x) (length (take m buf)) (length (take (m % 121) chunk)) b) (f n)
    ∙ (λ d. replayed_of (plan_of (request_at (e d) bs)) ((t ∙ i) d) ((u ∙ ap (λ (x : ℕ). x % 121) i) d) b)
