-- What a copy walk still has to give, from each stage, as the tail of the plan's list; and each step gives the first of it.
-- Assumes nothing.
use Rattle.std.specs.Prelude.{◌≡◌, refl, Bool, true, false, List, [], ◌∷◌, ◌++◌, ℕ, ◌+◌, ◌<◌, ltb, Option, Some, None}
use Rattle.std.proofs.Common.{sym, ap, ◌∙◌, append_assoc, append-nil, arith, ltb-true, lt-ltb, le-ltb}
use Rattle.object.specs.declared.types.Verdict.TheVariants as verdict
use Rattle.tile.specs.declared.bank.Bounds.{Bounds}
use Rattle.load_tile.specs.declared.load.LoadRequest.{LoadRequest}
use Rattle.plan.specs.declared.types.Copy.{Copy}
use Rattle.plan.specs.declared.types.Entry.{Entry}
use Rattle.plan.specs.Out.{Out, more, ◌>>=◌, ◌>>◌, yield, emit, refuse, Plan, plan_out}
use Rattle.plan.specs.Out.Out.{go, stop}
use Rattle.plan.specs.Load.{load_out, load_tile}
use Rattle.plan.specs.Copy.{field, strip_entries, strip, columns, strip_row_of, strip_height_of, rows, copy_plan}
use Rattle.plan.specs.Laws.{more_nil, more_more, more_bind, columns_on, columns_end, columns_fuel, rows_on, rows_end, rows_fuel}
use Rattle.plan.specs.Next.{cons, Follows}
use Rattle.plan.specs.Sound.{SoundCopy}
use Rattle.copy.specs.declared.types.Due.{Due}
use Rattle.copy.specs.declared.types.Due.TheVariants as due
use Rattle.copy.specs.declared.types.Stage.{Stage}
use Rattle.copy.specs.declared.types.Stage.TheVariants as stage
use Rattle.copy.specs.declared.types.Place.{Place}
use Rattle.copy.specs.Walk.{place_at, row_at, start_at, SoundAt, tile_entry, tile0_entry, size_entry, area_of, request_in, rect_entry, due_entry, too_big, tile7_next, load_next, strip_next, copy_next_of, CopyWalk, as_next}

-- ---- the tails, each written out from the definition of the plan

-- the row's strips from cell x on, and the rows after the row
unfoldable pub rest_from : Copy → (y sy height x : ℕ) → Out (Unit {0})
rest_from c y sy height x = columns c.width c y sy height x >> rows c.height c (y + height)

abbrev pub rest_of : Place → Out (Unit {0})
rest_of p = rest_from p.copy p.y p.sy p.strip_height (p.x + p.strip.strip_width)

-- what is given before a strip is found, and the strips after it
unfoldable pub due_tail : Due → Place → Out (Unit {0})
due_tail d p = emit (due_entry d p) >> rest_of p

-- the load alone
abbrev pub load_of : Place → Out (Unit {0})
load_of p = let a = area_of p in load_tile p.copy.siz (field p.copy) p.copy.address 7 a.uls a.ult a.lrs a.lrt

unfoldable pub load_tail : Place → Out (Unit {0})
load_tail p = load_of p >> due_tail due.Rect p

-- the strip that stands here, whole
unfoldable pub strip_tail : Place → Out (Unit {0})
strip_tail p =
    strip p.copy p.y p.sy p.strip_height p.x p.strip
    >>= (λ x. columns p.copy.width p.copy p.y p.sy p.strip_height x)
    >> rows p.copy.height p.copy (p.y + p.strip_height)

unfoldable pub tail_of : Stage → Place → Out (Unit {0})
tail_of (stage.Strip d) p = due_tail d p
tail_of stage.Tile7 p = strip_tail p
tail_of stage.Tile0 p = emit (tile0_entry p) >> (emit (size_entry p) >> load_tail p)
tail_of stage.Size p = emit (size_entry p) >> load_tail p
tail_of stage.Load p = load_tail p
tail_of stage.Done p = yield tt

-- what is to come of the plan
unfoldable pub coming_copy : Stage → Place → Plan
coming_copy s p = plan_out (tail_of s p)

abbrev pub coming_walk : CopyWalk → Plan
coming_walk w = coming_copy w.stage w.place

-- ---- laws of plans

plan_more : (e : Entry) (a : Out (Unit {0})) → plan_out (more (e ∷ []) a) ≡ cons e (plan_out a)
plan_more e (go es u) = refl
plan_more e (stop es l v) = refl

three : (a b d : Entry) (o : Out (Unit {0})) → more (a ∷ b ∷ d ∷ []) o ≡ more (a ∷ []) (more (b ∷ []) (more (d ∷ []) o))
three a b d (go es u) = refl
three a b d (stop es l v) = refl

-- a strip's entries before its load, the load, and its rectangle; then the next cell, and the rest
regroup : (before : List Entry) (load : Out (Unit {0})) (rect : Entry) (x : ℕ) (k : ℕ → Out (Unit {0})) (m : Out (Unit {0}))
    → (((more before load >> emit rect) >> yield x) >>= k) >> m ≡ more before (load >> more (rect ∷ []) (k x >> m))
regroup before (go es u) rect x k m =
    more_bind (((before ++ es) ++ (rect ∷ [])) ++ []) (k x) (λ _. m)
    ∙ ap (λ (l : List Entry). more l (k x >> m)) (append-nil _ ∙ append_assoc before es (rect ∷ []))
    ∙ sym (more_more before (es ++ (rect ∷ [])) (k x >> m))
    ∙ ap (more before) (sym (more_more es (rect ∷ []) (k x >> m)))
regroup before (stop es l v) rect x k m = refl

-- ---- one strip

pub too_big_lem : (p : Place) → too_big p ≡ true → strip_tail p ≡ refuse verdict.TooBig
unfolding strip_tail strip
too_big_lem p t = rw (t, strip)

pub fits : (p : Place) → too_big p ≡ false → strip_tail p ≡ (emit (tile_entry p 7 0 0) >> tail_of stage.Tile0 p)
unfolding strip_tail strip strip_entries tail_of load_tail due_tail rest_from
fits p t =
    let c = p.copy in
    let x = p.x + p.strip.strip_width in
    rw (t, strip)
    (regroup (tile_entry p 7 0 0 ∷ tile0_entry p ∷ size_entry p ∷ []) (load_of p) (rect_entry p) x (λ x. columns c.width c p.y p.sy p.strip_height x) (rows c.height c (p.y + p.strip_height))
    ∙ three (tile_entry p 7 0 0) (tile0_entry p) (size_entry p) (load_of p >> due_tail due.Rect p))

-- ---- the rest, where there is a strip to the right, a row below, or nothing

pub right_tail : (c : Copy) (y sy h x : ℕ) → SoundCopy c → x < c.width → rest_from c y sy h x ≡ strip_tail (place_at c x y sy h)
unfolding rest_from strip_tail
right_tail c y sy h x s k =
    ap (λ (a : Out (Unit {0})). a >> rows c.height c (y + h))
    (columns_fuel c.width c y sy h x s.image_width (omega arith) ∙ columns_on c.width c y sy h x (lt-ltb x c.width k))

pub row_rest : (c : Copy) (y : ℕ) → SoundCopy c → y < c.height → rows c.height c y ≡ rest_from c y (strip_row_of c y) (strip_height_of c y) 0
unfolding rest_from
row_rest c y s h = rows_fuel c.height c y s.rows s.image_height (omega arith) ∙ rows_on c.height c y (lt-ltb y c.height h)

row_tail : (c : Copy) (y : ℕ) → SoundCopy c → y < c.height → rows c.height c y ≡ strip_tail (row_at c y)
row_tail c y s h = row_rest c y s h ∙ right_tail c y (strip_row_of c y) (strip_height_of c y) 0 s s.width

pub below_tail : (c : Copy) (y sy h x : ℕ) → ltb x c.width ≡ false → rest_from c y sy h x ≡ rows c.height c (y + h)
unfolding rest_from
below_tail c y sy h x t = ap (λ (a : Out (Unit {0})). a >> rows c.height c (y + h)) (columns_end c.width c y sy h x t) ∙ more_nil _

-- ---- each step gives the first of what is to come

tile7_follows : (p : Place) (t : Bool) → too_big p ≡ t → Follows coming_walk (plan_out (strip_tail p)) (as_next (tile7_next t p))
unfolding tile7_next coming_copy
tile7_follows p true e = ap plan_out (too_big_lem p e)
tile7_follows p false e = ap plan_out (fits p e) ∙ plan_more (tile_entry p 7 0 0) (tail_of stage.Tile0 p)

load_follows : (p : Place) (a : Bounds) (q : Option LoadRequest) → Follows coming_walk (plan_out (load_out q 7 a.uls a.ult a.lrs a.lrt >> due_tail due.Rect p)) (as_next (load_next q a p))
unfolding load_next load_out coming_copy tail_of
load_follows p a (Some r) = plan_more _ (due_tail due.Rect p)
load_follows p a None = refl

strip_follows : (d : Due) (p : Place) → SoundCopy p.copy → (t u : Bool) → ltb (p.x + p.strip.strip_width) p.copy.width ≡ t → ltb (p.y + p.strip_height) p.copy.height ≡ u
    → Follows coming_walk (plan_out (due_tail d p)) (as_next (strip_next t u d p))
unfolding strip_next due_tail coming_copy tail_of
strip_follows d p s true u e f =
    plan_more (due_entry d p) (rest_of p)
    ∙ ap (λ (a : Out (Unit {0})). cons (due_entry d p) (plan_out a)) (right_tail p.copy p.y p.sy p.strip_height (p.x + p.strip.strip_width) s (ltb-true _ _ e))
strip_follows d p s false true e f =
    plan_more (due_entry d p) (rest_of p)
    ∙ ap (λ (a : Out (Unit {0})). cons (due_entry d p) (plan_out a))
    (below_tail p.copy p.y p.sy p.strip_height (p.x + p.strip.strip_width) e ∙ row_tail p.copy (p.y + p.strip_height) s (ltb-true _ _ f))
strip_follows d p s false false e f =
    plan_more (due_entry d p) (rest_of p)
    ∙ ap (λ (a : Out (Unit {0})). cons (due_entry d p) (plan_out a))
    (below_tail p.copy p.y p.sy p.strip_height (p.x + p.strip.strip_width) e ∙ rows_end p.copy.height p.copy (p.y + p.strip_height) f)

pub copy_follows : (s : Stage) (p : Place) → SoundAt s p → Follows coming_walk (coming_copy s p) (as_next (copy_next_of s p))
unfolding copy_next_of coming_copy tail_of load_tail load_tile
copy_follows (stage.Strip due.Image) p h = strip_follows due.Image p h.copy _ _ refl refl
copy_follows (stage.Strip due.Rect) p h = strip_follows due.Rect p h.copy _ _ refl refl
copy_follows stage.Tile7 p h = tile7_follows p _ refl
copy_follows stage.Tile0 p h = plan_more (tile0_entry p) (emit (size_entry p) >> load_tail p)
copy_follows stage.Size p h = plan_more (size_entry p) (load_tail p)
copy_follows stage.Load p h = load_follows p (area_of p) (request_in p.copy (area_of p))
copy_follows stage.Done p h = refl

-- the whole plan is to come at the start
pub copy_start : (c : Copy) → coming_copy (stage.Strip due.Image) (start_at c) ≡ plan_out (copy_plan c)
unfolding coming_copy tail_of due_tail copy_plan
copy_start c = ap (λ (a : Out (Unit {0})). plan_out (emit (due_entry due.Image (start_at c)) >> a)) (below_tail c 0 0 0 (c.width + 0) (le-ltb (c.width + 0) c.width (omega arith)))
