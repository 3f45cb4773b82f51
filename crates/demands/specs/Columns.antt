-- Every number of a plan fits its column: read again, its digits are the number, and a negative one has room for its sign. D is docs/SPECIFICATION.md, section 12.
-- Assumes nothing.
use Rattle.std.specs.Prelude.{◌≡◌, refl, Bool, true, false, cond, ◌&&◌, List, [], ◌∷◌, ◌++◌, ℕ, zero, suc, ◌+◌, ◌-◌, ◌*◌, ◌/◌, ◌%◌, ◌^◌, ◌≤◌, ◌<◌, ltb, leb, eqb, ℤ, pos, negsuc, length}
use Rattle.std.proofs.Common.{sym, ◌∙◌, true≢false, arith, mul-le-mul, mod-eq_of_lt, length-append, le-leb, leb-true}
use Rattle.std.proofs.lemmas.Bool.{lt-leb}
use Rattle.signed.specs.Diff.{zarith}
use Rattle.signed.specs.Cast.{word}
use Rattle.object.specs.declared.types.Verdict.{Verdict}
use Rattle.object.specs.declared.types.Verdict.TheVariants as verdict
use Rattle.checks.specs.Check.{verdict_number}
use Rattle.plan.specs.declared.types.Entry.{Entry}
use Rattle.plan.specs.declared.types.Entry.TheVariants as entry
use Rattle.plan.specs.Request.{Request}
use Rattle.plan.specs.Run.{rectangles, words_from, entry_words, end_words, end_of}
use Rattle.plan.specs.Whole.{plan_of}
use Rattle.lines.specs.Text.{digits_of, is_negative, magnitude_of, widths_of, end_widths}
use Rattle.lines.specs.Decimal.{said_after, digits_say}
use Rattle.small.specs.Small.{Signed16, Small, AllSmall}
use Rattle.small.specs.SmallPlans.{Asked, plan_small}

-- a word in a column of w places: no digit of it is lost, nor its sign
pub record Shows (w x : ℕ) : Type 0 where
  pub digits : said_after 0 (digits_of w (magnitude_of w x)) ≡ magnitude_of w x
  pub sign : is_negative w x ≡ true → length (digits_of w (magnitude_of w x)) < w

-- the same of each word of a row
abbrev pub RowShows : (widths words : List ℕ) → Type 0
RowShows [] xs = Unit {0}
RowShows (w ∷ ws) [] = Unit {0}
RowShows (w ∷ ws) (x ∷ xs) = Shows w x × RowShows ws xs

abbrev pub AllShow : List Entry → Type 0
AllShow [] = Unit {0}
AllShow (e ∷ es) = RowShows (widths_of e) (entry_words e) × AllShow es

-- ---- digits

-- no more digits than places that hold the number
digits_few : (v w n : ℕ) → n < 10 ^ v → 1 ≤ v → length (digits_of w n) ≤ v
unfolding digits_of
digits_few v zero n h o = omega arith
digits_few zero (suc w) n h o = absurd (omega arith)
digits_few (suc v) (suc w) n h o = by (leb 10 n) refl (λ k l. digits_few v w (n / 10) k l)
  where
    by : (t : Bool) → leb 10 n ≡ t → (n / 10 < 10 ^ v → 1 ≤ v → length (digits_of w (n / 10)) ≤ v) → length (cond t (digits_of w (n / 10)) [] ++ (48 + n % 10) ∷ []) ≤ suc v
    by true e r = let l = leb-true 10 n e in let p : 1 ≤ v = more v h l in omega (arith, length-append (digits_of w (n / 10)) ((48 + n % 10) ∷ []), r (omega arith) p)
      where
        more : (v : ℕ) → n < 10 ^ suc v → 10 ≤ n → 1 ≤ v
        more zero h l = absurd (omega arith)
        more (suc v) h l = omega arith
    by false e r = omega arith

-- ---- words

and_false : (s t : Bool) → t ≡ false → (s && t) ≡ false
and_false true t e = e
and_false false t e = refl

-- a number that is not negative
plainly : (w x : ℕ) → x < 2 ^ 63 → x < 10 ^ w → Shows w x
plainly w x h k =
    let e : is_negative w x ≡ false = and_false (ltb w 21) (leb (2 ^ 63) x) (lt-leb (2 ^ 63) x h) in
    record { digits = rw e (digits_say w x k); sign = λ f. absurd (true≢false (sym f ∙ e)) }

-- an address or a length
widely : (x : ℕ) → x < 2 ^ 64 → Shows 21 x
widely x h = record { digits = digits_say 21 x (omega arith); sign = λ e. absurd (true≢false (sym e)) }

-- a word that stands for a number below 0 of at most seven digits
negatively : (x : ℕ) → 2 ^ 63 ≤ x → 2 ^ 64 - x < 10 ^ 7 → Shows 8 x
negatively x h k =
    let e : leb (2 ^ 63) x ≡ true = le-leb (2 ^ 63) x h in
    record { digits = rw e (digits_say 8 (2 ^ 64 - x) (omega arith)); sign = λ _. rw e (omega (arith, digits_few 7 8 (2 ^ 64 - x) k (omega arith))) }

-- a number of 16 bits with a sign, as a word
signed_shows : (z : ℤ) → Signed16 z → Shows 8 (word z)
signed_shows (pos n) h = let l : n ≤ 32767 = omega (zarith, h.1) in rw (mod-eq_of_lt {n = n} {m = 2 ^ 64} (omega arith)) (plainly 8 n (omega arith) (omega arith))
signed_shows (negsuc n) h = let l : n ≤ 32767 = omega (zarith, h.0) in rw (mod-eq_of_lt {n = n} {m = 2 ^ 64} (omega arith)) (negatively (2 ^ 64 - suc n) (omega arith) (omega arith))

-- ---- entries and ends

row_none : Shows 0 0
row_none = plainly 0 0 (omega arith) (omega arith)

-- a number in one of the columns that are 8 wide
eight : (x : ℕ) → x < 10 ^ 8 → Shows 8 x
eight x h = plainly 8 x (omega arith) h

entry_shows : (e : Entry) → Small e → RowShows (widths_of e) (entry_words e)
unfolding widths_of entry_words
entry_shows (entry.Image fmt siz width address) h =
    (plainly 2 1 (omega arith) (omega arith), (eight fmt (omega (arith, h.0)), (eight siz (omega (arith, h.1.0)), (eight width (omega (arith, h.1.1.0)), (widely address h.1.1.1, (row_none, (row_none, (row_none, (row_none, (row_none, (row_none, tt)))))))))))
entry_shows (entry.Tile i fmt siz line tmem palette cms cmt masks maskt) h =
    let k = h.1.1.1.1 in (
      plainly 2 2 (omega arith) (omega arith),
      (
        eight i (omega (arith, h.0)),
        (
          eight fmt (omega (arith, h.1.0)),
          (
            eight siz (omega (arith, h.1.1.0)),
            (
              eight line (omega (arith, h.1.1.1.0)),
              (eight tmem (omega (arith, k.0)), (eight palette (omega (arith, k.1.0)), (eight cms (omega (arith, k.1.1.0)), (eight cmt (omega (arith, k.1.1.1.0)), (eight masks (omega (arith, k.1.1.1.1.0)), (eight maskt (omega (arith, k.1.1.1.1.1)), tt)))))),
            ),
          ),
        ),
      ),
    )
entry_shows (entry.Size i uls ult lrs lrt) h = (
  plainly 2 3 (omega arith) (omega arith),
  (
    eight i (omega (arith, h.0)),
    (
      eight uls (omega (arith, h.1.0)),
      (
        eight ult (omega (arith, h.1.1.0)),
        (
          eight lrs (omega (arith, h.1.1.1.0)),
          (
            eight lrt (omega (arith, h.1.1.1.1)),
            (row_none, (row_none, (row_none, (row_none, (row_none, tt))))),
          ),
        ),
      ),
    ),
  ),
)
entry_shows (entry.Load i uls ult lrs lrt words rows stride start len) h =
    let k = h.1.1.1.1 in (
      plainly 2 4 (omega arith) (omega arith),
      (
        eight i (omega (arith, h.0)),
        (
          eight uls (omega (arith, h.1.0)),
          (
            eight ult (omega (arith, h.1.1.0)),
            (
              eight lrs (omega (arith, h.1.1.1.0)),
              (eight lrt (omega (arith, k.0)), (eight words (omega (arith, k.1.0)), (eight rows (omega (arith, k.1.1.0)), (eight stride (omega (arith, k.1.1.1.0)), (widely start (omega (arith, k.1.1.1.1)), (widely len (omega (arith, k.1.1.1.1)), tt)))))),
            ),
          ),
        ),
      ),
    )
entry_shows (entry.Rect i ulx uly lrx lry uls ult dsdx dtdy row) h =
    let k = h.0 in
    let z = h.1 in (
      plainly 2 5 (omega arith) (omega arith),
      (
        eight i (omega (arith, k.0)),
        (
          eight ulx (omega (arith, k.1.0)),
          (
            eight uly (omega (arith, k.1.1.0)),
            (
              eight lrx (omega (arith, k.1.1.1.0)),
              (
                eight lry (omega (arith, k.1.1.1.1.0)),
                (signed_shows uls z.0, (signed_shows ult z.1.0, (signed_shows dsdx z.1.1.0, (signed_shows dtdy z.1.1.1, (eight row (omega (arith, k.1.1.1.1.1)), tt))))),
              ),
            ),
          ),
        ),
      ),
    )

all_show : (es : List Entry) → AllSmall es → AllShow es
all_show [] h = tt
all_show (e ∷ es) h = (entry_shows e h.0, all_show es h.1)

few_rectangles : (es : List Entry) → rectangles es ≤ length es
unfolding rectangles
few_rectangles [] = omega arith
few_rectangles (entry.Image fmt siz width address ∷ es) = omega (arith, few_rectangles es)
few_rectangles (entry.Tile i fmt siz line tmem palette cms cmt masks maskt ∷ es) = omega (arith, few_rectangles es)
few_rectangles (entry.Size i uls ult lrs lrt ∷ es) = omega (arith, few_rectangles es)
few_rectangles (entry.Load i uls ult lrs lrt words rows stride start len ∷ es) = omega (arith, few_rectangles es)
few_rectangles (entry.Rect i ulx uly lrx lry uls ult dsdx dtdy row ∷ es) = omega (arith, few_rectangles es)

few_words : (es : List Entry) (l : ℕ) → l ≤ 1039 → AllSmall es → words_from l es ≤ 16384 * 1039
unfolding words_from
few_words [] l h s = omega arith
few_words (entry.Image fmt siz width address ∷ es) l h s = few_words es l h s.1
few_words (entry.Tile i fmt siz line tmem palette cms cmt masks maskt ∷ es) l h s = few_words es (cond (eqb i 7) line l) (by (eqb i 7)) s.1
  where
    by : (t : Bool) → cond t line l ≤ 1039
    by true = s.0.1.1.1.0
    by false = h
few_words (entry.Size i uls ult lrs lrt ∷ es) l h s = few_words es l h s.1
few_words (entry.Load i uls ult lrs lrt words rows stride start len ∷ es) l h s =
    let p : rows * l ≤ 16384 * 1039 = mul-le-mul {n₁ = rows} {m₁ = l} s.0.1.1.1.1.1.1.0 h in
    omega (arith, few_words es l h s.1)
few_words (entry.Rect i ulx uly lrx lry uls ult dsdx dtdy row ∷ es) l h s = few_words es l h s.1

few_verdicts : (v : Verdict) → verdict_number v ≤ 10
few_verdicts verdict.Finished = omega arith
few_verdicts verdict.Opcode = omega arith
few_verdicts verdict.Short = omega arith
few_verdicts verdict.Scissor = omega arith
few_verdicts verdict.Object = omega arith
few_verdicts verdict.Copy = omega arith
few_verdicts verdict.Slices = omega arith
few_verdicts verdict.TooBig = omega arith
few_verdicts verdict.Piece = omega arith
few_verdicts verdict.Address = omega arith
few_verdicts verdict.Full = omega arith

-- D "kind 2 wide, addresses and length 21, the rest 8": every line of every plan
pub columns_hold : (q : Request) → Asked q → AllShow (plan_of q).entries × RowShows end_widths (end_words (end_of (plan_of q)))
unfolding end_of
columns_hold q h =
    let s = plan_small q h in
    let es = (plan_of q).entries in (
      all_show es s.0,
      (
        plainly 2 9 (omega arith) (omega arith),
        (
          eight (verdict_number (plan_of q).verdict) (omega (arith, few_verdicts (plan_of q).verdict)),
          (
            eight (length es) (omega (arith, s.1)),
            (
              eight (rectangles es) (omega (arith, few_rectangles es, s.1)),
              (
                eight (words_from 0 es) (omega (arith, few_words es 0 (omega arith) s.0)),
                (row_none, (row_none, (row_none, (row_none, (row_none, (row_none, tt)))))),
              ),
            ),
          ),
        ),
      ),
    )
