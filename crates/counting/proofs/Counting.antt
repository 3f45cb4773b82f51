-- What the count of a copy plan has come to, at a row and at a cell: the numbers so far, and the end of what is still to come.
-- Assumes nothing.
use Rattle.std.specs.Prelude.{◌≡◌, refl, Bool, true, false, not, ℕ, ◌+◌, ◌-◌, ◌*◌, ◌/◌, ◌%◌, ◌^◌, ◌≤◌, ◌<◌, max, length, Option, Some, None}
use Rattle.std.proofs.Common.{sym, ap, ◌∙◌, arith, lt-ltb, le-ltb}
use Rattle.std.proofs.Math.Nat.{mul_comm}
use Rattle.signed.specs.Floor.{modulo}
use Rattle.object.specs.declared.types.Verdict.{Verdict}
use Rattle.object.specs.declared.types.Verdict.TheVariants as verdict
use Rattle.load_tile.specs.declared.load.LoadRequest.{LoadRequest}
use Rattle.load_tile.specs.Load.{words_in, words_of, bytes_of, stride_of, offset_of, rows_of, granted, request_of}
use Rattle.plan.specs.declared.types.Copy.{Copy}
use Rattle.plan.specs.declared.types.End.{End}
use Rattle.plan.specs.declared.types.Strip.{Strip}
use Rattle.plan.specs.declared.types.Entry.TheVariants as entry
use Rattle.plan.specs.Out.{Out, ◌>>◌, emit, plan_out}
use Rattle.plan.specs.Out.Out.{go, stop}
use Rattle.plan.specs.Load.{load_out, load_tile}
use Rattle.plan.specs.Run.{rectangles, words_from, end_of}
use Rattle.plan.specs.Copy.{field, bound, column, strip_row_of, strip_height_of, rows, copy_plan}
use Rattle.plan.specs.Laws.{rows_end}
use Rattle.plan.specs.Sound.{SoundCopy}
use Rattle.copy.specs.declared.types.Due.TheVariants as due
use Rattle.copy.specs.declared.types.Place.{Place}
use Rattle.strips.specs.Strip.{Less, StripIs, Rows, column_is}
use Rattle.copy.specs.Walk.{place_at, SoundPlace, image_entry, tile_entry, tile0_entry, size_entry, area_of, request_in, rect_entry, too_big}
use Rattle.copy.specs.Coming.{rest_from, rest_of, due_tail, load_tail, strip_tail, tail_of, too_big_lem, fits, right_tail, row_rest, below_tail}
use Rattle.counting.specs.Count.{wrap_column, refused_at}
use Rattle.counting.proofs.Wrap.{strip_wrapped, row_below}

-- the end of what is to come, where tile 7 has this line
abbrev end_from : ℕ → Out (Unit {0}) → End
end_from line o =
    record { verdict = (plan_out o).verdict; entries = length (plan_out o).entries; rectangles = rectangles (plan_out o).entries; words = words_from line (plan_out o).entries }

-- entries, rectangles and tile words before it
abbrev plus : (entries rectangles words : ℕ) → End → End
plus n r w k = record { verdict = k.verdict; entries = n + k.entries; rectangles = r + k.rectangles; words = max w k.words }

same : {n m r q w u : ℕ} (v : Verdict) → n ≡ m → r ≡ q → w ≡ u
    → ◌≡◌ {A = End} (record { verdict = v; entries = n; rectangles = r; words = w }) (record { verdict = v; entries = m; rectangles = q; words = u })
same v e f g = rw (e, f, g)

joined : (n r w m q u : ℕ) (k : End) → plus n r w (plus m q u k) ≡ plus (n + m) (r + q) (max w u) k
joined n r w m q u k = same k.verdict (omega arith) (omega arith) (omega arith)

image : (c : Copy) (l : ℕ) (o : Out (Unit {0})) → end_from l (emit (image_entry c) >> o) ≡ plus 1 0 0 (end_from l o)
unfolding rectangles words_from
image c l (go es u) = same verdict.Finished (omega arith) (omega arith) (omega arith)
image c l (stop es left v) = same v (omega arith) (omega arith) (omega arith)

-- ---- the load of a strip

-- a load that is granted, of n rows
abbrev LoadsRows : Option LoadRequest → ℕ → Type 0
LoadsRows (Some r) n = r.rows ≡ n
LoadsRows None n = ⊥

not_not : (t : Bool) → not (not t) ≡ t
not_not true = refl
not_not false = refl

-- in a sound frame no bound of a load is cut to 16 bits, and neither is the image's width field: so it starts at its column and row, and has the strip's columns and rows
module _ (p : Place) (s : SoundPlace p) where
  abbrev start : ℕ
  start = p.copy.address + offset_of p.copy.siz (stride_of p.copy.siz (field p.copy)) (area_of p).uls (area_of p).ult

  abbrev span : ℕ
  span = (rows_of (area_of p).ult (area_of p).lrt - 1) * stride_of p.copy.siz (field p.copy) + 8 * words_of p.copy.siz (area_of p).uls (area_of p).lrs

  row_is : stride_of p.copy.siz (field p.copy) ≡ bytes_of p.copy.siz p.copy.image_width
  row_is =
      let c = s.copy in
      let width : field p.copy + 1 ≡ p.copy.image_width = omega arith in
      rw width

  start_is : start ≡ p.copy.address + (bytes_of p.copy.siz p.strip.aligned_left + bytes_of p.copy.siz p.copy.image_width * p.sy)
  start_is =
      let c = s.copy in
      let b = s.strip in
      let r = s.rows in
      let left : bound p.strip.aligned_left / 4 ≡ p.strip.aligned_left = omega arith in
      let row : bound p.sy / 4 ≡ p.sy = omega arith in
      rw (left, row, row_is)

  height_is : rows_of (area_of p).ult (area_of p).lrt ≡ p.strip_height
  height_is =
      let c = s.copy in
      let r = s.rows in
      omega arith

  span_is : span ≡ (p.strip_height - 1) * bytes_of p.copy.siz p.copy.image_width + 8 * words_in p.copy.siz (p.strip.load_width - 1)
  span_is =
      let c = s.copy in
      let b = s.strip in
      let columns : (area_of p).lrs / 4 - (area_of p).uls / 4 ≡ p.strip.load_width - 1 = omega arith in
      rw (height_is, row_is, columns)

  granted_is : granted start span ≡ not (refused_at p.copy p.strip p.sy p.strip_height)
  granted_is = rw (start_is, span_is) (sym (not_not _))

  load_refused : refused_at p.copy p.strip p.sy p.strip_height ≡ true → request_in p.copy (area_of p) ≡ None
  unfolding request_of
  load_refused g = let e = granted_is ∙ ap not g in rw (e, request_of)

  load_rows : refused_at p.copy p.strip p.sy p.strip_height ≡ false → LoadsRows (request_in p.copy (area_of p)) p.strip_height
  unfolding request_of
  load_rows g = let e = granted_is ∙ ap not g in rw (e, request_of) height_is

-- ---- one strip

-- its entries, by what its load asked for
abbrev strip_with : Place → Option LoadRequest → Out (Unit {0})
strip_with p q =
    let a = area_of p in
    emit (tile_entry p 7 0 0) >> (emit (tile0_entry p) >> (emit (size_entry p) >> (load_out q 7 a.uls a.ult a.lrs a.lrt >> due_tail due.Rect p)))

strip_with_lem : (p : Place) → too_big p ≡ false → strip_tail p ≡ strip_with p (request_in p.copy (area_of p))
unfolding tail_of load_tail load_tile
strip_with_lem p t = fits p t

-- five entries, one of them a rectangle; the line is tile 7's for the load and after it
five : (p : Place) (l uls ult lrs lrt words rows stride start len : ℕ) (o : Out (Unit {0}))
    → end_from l (emit (tile_entry p 7 0 0) >> (emit (tile0_entry p) >> (emit (size_entry p) >> (emit (entry.Load 7 uls ult lrs lrt words rows stride start len) >> (emit (rect_entry p) >> o)))))
    ≡ plus 5 1 (rows * (p.strip.line % 2 ^ 16)) (end_from (p.strip.line % 2 ^ 16) o)
unfolding rectangles words_from
five p l uls ult lrs lrt words rows stride start len (go es u) = same verdict.Finished (omega arith) refl refl
five p l uls ult lrs lrt words rows stride start len (stop es left v) = same v (omega arith) refl refl

drawn : (p : Place) (l : ℕ) (q : Option LoadRequest) → LoadsRows q p.strip_height → p.strip.line % 2 ^ 16 ≡ p.strip.line
    → end_from l (strip_with p q) ≡ plus 5 1 (p.strip.line * p.strip_height) (end_from p.strip.line (rest_of p))
unfolding load_out due_tail
drawn p l (Some r) e f =
    five p l _ _ _ _ _ _ _ _ _ (rest_of p) ∙ rw (e, f) (ap (λ (n : ℕ). plus 5 1 n (end_from p.strip.line (rest_of p))) (mul_comm p.strip_height p.strip.line))
drawn p l None e f = absurd e

-- three entries, and no load
cut : (p : Place) (l : ℕ) → end_from l (strip_with p None) ≡ record { verdict = verdict.Address; entries = 3; rectangles = 0; words = 0 }
unfolding load_out rectangles words_from
cut p l = refl

module _ (p : Place) (s : SoundPlace p) (l : ℕ) (t : too_big p ≡ false) where
  whole : refused_at p.copy p.strip p.sy p.strip_height ≡ false → end_from l (strip_tail p) ≡ plus 5 1 (p.strip.line * p.strip_height) (end_from p.strip.line (rest_of p))
  whole g =
      let b = s.strip in
      let f : p.strip.line % 2 ^ 16 ≡ p.strip.line = omega arith in
      ap (end_from l) (strip_with_lem p t) ∙ drawn p l (request_in p.copy (area_of p)) (load_rows p s g) f

  broken : refused_at p.copy p.strip p.sy p.strip_height ≡ true → end_from l (strip_tail p) ≡ record { verdict = verdict.Address; entries = 3; rectangles = 0; words = 0 }
  broken g = ap (end_from l) (strip_with_lem p t ∙ ap (strip_with p) (load_refused p s g)) ∙ cut p l

-- ---- the two loops

-- the numbers so far and the end of the rows from line y on are the whole plan's
pub record AtRow (c : Copy) (entries rectangles words : ℕ) (v : Verdict) (y sy : ℕ) : Type 0 where
  pub line : ℕ
  pub is : end_of (plan_out (copy_plan c)) ≡ plus entries rectangles words (end_from line (rows c.height c y))
  pub verdict : v ≡ verdict.Finished
  pub row : sy ≡ strip_row_of c y
  pub few : entries ≤ 5 * (1024 * y) + 1
  pub drawn : rectangles ≤ 1024 * y

-- the same within a row, from cell x on
pub record AtCell (c : Copy) (y sy h entries rectangles words : ℕ) (v : Verdict) (x : ℕ) : Type 0 where
  pub line : ℕ
  pub is : end_of (plan_out (copy_plan c)) ≡ plus entries rectangles words (end_from line (rest_from c y sy h x))
  pub verdict : v ≡ verdict.Finished
  pub within : x ≤ c.width
  pub few : entries ≤ 5 * (1024 * y + x) + 1
  pub drawn : rectangles ≤ 1024 * y + x

-- and from image column sx on, where a cell is left
pub record AtColumn (c : Copy) (y sy h entries rectangles words : ℕ) (v : Verdict) (x sx : ℕ) : Type 0 where
  pub at : AtCell c y sy h entries rectangles words v x
  pub column : x < c.width → Less (modulo (column c x) c.image_width) c.image_width sx

pub started : {c : Copy} {sy : ℕ} → sy ≡ strip_row_of c 0 → AtRow c 1 0 0 verdict.Finished 0 sy
unfolding copy_plan end_of
started {c} r = record { line = 0; is = image c 0 (rows c.height c 0); verdict = refl; row = r; few = omega arith; drawn = omega arith }

module _ {c : Copy} {entries rectangles words : ℕ} {v : Verdict} {y sy : ℕ} (s : SoundCopy c) (k : y < c.height) (a : AtRow c entries rectangles words v y sy) where
  pub row_begins : {h first : ℕ} → h ≡ strip_height_of c y → Less (modulo (column c 0) c.image_width) c.image_width first → AtColumn c y sy h entries rectangles words v 0 first
  row_begins e f =
      let few = a.few in
      let drawn = a.drawn in
      record {
        at =
            record {
              line = a.line;
              is = rw (a.row, e) (a.is ∙ ap (λ (o : Out (Unit {0})). plus entries rectangles words (end_from a.line o)) (row_rest c y s k));
              verdict = a.verdict;
              within = omega arith;
              few = omega arith;
              drawn = omega arith;
            };
        column = λ l. f;
      }

pub row_ends : {c : Copy} {y sy h entries rectangles words : ℕ} {v : Verdict} {x sy' : ℕ} → SoundCopy c → sy ≡ strip_row_of c y → 1 ≤ h → c.width ≤ x → sy' ≡ (sy + h) % c.image_height → AtCell c y sy h entries rectangles words v x
    → AtRow c entries rectangles words v (y + h) sy'
row_ends {c} {y} {sy} {h} {entries} {rectangles} {words} {v} {x} s r l k e a =
    let few = a.few in
    let drawn = a.drawn in
    let within = a.within in
    record {
      line = a.line;
      is = a.is ∙ ap (λ (o : Out (Unit {0})). plus entries rectangles words (end_from a.line o)) (below_tail c y sy h x (le-ltb x c.width k));
      verdict = a.verdict;
      row = e ∙ ap (λ (n : ℕ). (n + h) % c.image_height) r ∙ row_below c y h;
      few = omega arith;
      drawn = omega arith;
    }

pub finished : {c : Copy} {entries rectangles words : ℕ} {v : Verdict} {y sy : ℕ} → c.height ≤ y → AtRow c entries rectangles words v y sy
    → record { verdict = v; entries = entries; rectangles = rectangles; words = words } ≡ end_of (plan_out (copy_plan c))
unfolding rectangles words_from
finished {c} {entries} {rectangles} {words} {v} {y} k a =
    sym
    (a.is
    ∙ ap (λ (o : Out (Unit {0})). plus entries rectangles words (end_from a.line o)) (rows_end c.height c y (le-ltb y c.height k))
    ∙ rw a.verdict (same verdict.Finished (omega arith) (omega arith) (omega arith)))

module _ {c : Copy} {y sy h entries rectangles words : ℕ} {v : Verdict} {x sx : ℕ} {strip : Strip} (s : SoundCopy c) (k : y < c.height) (r : Rows c y sy h) (a : AtColumn c y sy h entries rectangles words v x sx) (l : x < c.width) (here : StripIs c x strip) where
  abbrev place : Place
  place = record { copy = c; x = x; y = y; sy = sy; strip_height = h; strip = strip }

  place_is : place ≡ place_at c x y sy h
  place_is = ap (λ (t : Strip). record { copy = c; x = x; y = y; sy = sy; strip_height = h; strip = t }) here.is

  sound : SoundPlace place
  sound = record { copy = s; x = l; y = k; rows = r; strip = here.bounds }

  at_strip : end_of (plan_out (copy_plan c)) ≡ plus entries rectangles words (end_from a.at.line (strip_tail place))
  at_strip = rw place_is (a.at.is ∙ ap (λ (o : Out (Unit {0})). plus entries rectangles words (end_from a.at.line o)) (right_tail c y sy h x s (l)))

  -- the next strip of the row starts where the image begins again
  next_column : x + strip.strip_width < c.width → modulo (column c (x + strip.strip_width)) c.image_width ≡ wrap_column c
  next_column m = rw here.is (strip_wrapped c x s (rw here.is at m))

  pub strip_too_big : c.capacity < strip.line * h → record { verdict = verdict.TooBig; entries = entries; rectangles = rectangles; words = words } ≡ end_of (plan_out (copy_plan c))
  unfolding rectangles words_from
  strip_too_big t =
      sym (at_strip ∙ ap (λ (o : Out (Unit {0})). plus entries rectangles words (end_from a.at.line o)) (too_big_lem place (lt-ltb c.capacity (strip.line * h) t)) ∙ same verdict.TooBig (omega arith) (omega arith) (omega arith))

  module _ (t : strip.line * h ≤ c.capacity) where
    room : too_big place ≡ false
    room = le-ltb c.capacity (strip.line * h) t

    pub strip_refused : refused_at c strip sy h ≡ true
        → record { verdict = verdict.Address; entries = entries + 3; rectangles = rectangles; words = words } ≡ end_of (plan_out (copy_plan c))
    strip_refused g = sym (at_strip ∙ ap (plus entries rectangles words) (broken place sound a.at.line room g) ∙ same verdict.Address refl (omega arith) (omega arith))

    pub strip_counted : {wrap most : ℕ} → wrap ≡ wrap_column c → refused_at c strip sy h ≡ false → most ≡ max words (strip.line * h)
        → AtColumn c y sy h (entries + 5) (rectangles + 1) most v (x + strip.strip_width) wrap
    strip_counted w g e =
        let b = here.bounds in
        let few = a.at.few in
        let drawn = a.at.drawn in
        record {
          at =
              record {
                line = strip.line;
                is = rw e (at_strip ∙ ap (plus entries rectangles words) (whole place sound a.at.line room g) ∙ joined entries rectangles words 5 1 (strip.line * h) (end_from strip.line (rest_of place)));
                verdict = a.at.verdict;
                within = omega arith;
                few = omega arith;
                drawn = omega arith;
              };
          column = λ m. column_is c (x + strip.strip_width) s (w ∙ sym (next_column m));
        }
