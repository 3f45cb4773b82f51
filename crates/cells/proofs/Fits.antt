-- Where tmem_h / 4 times the line of the full image width is at most the capacity, no copy plan is verdict 7: every strip's line and height are no larger.
-- Assumes nothing.
use Rattle.std.specs.Prelude.{◌≡◌, refl, false, Option, Some, None, List, [], ◌∷◌, ℕ, zero, suc, ◌*◌, ◌/◌, ◌≤◌, eqb}
use Rattle.std.proofs.Common.{sym, ap, subst, ◌∙◌, arith, mul-le-mul, le-ltb, ne_eqb}
use Rattle.measures.specs.Measure.{quarters, texels}
use Rattle.object.specs.Layout.{Bytes}
use Rattle.checks.specs.Check.{verdict_number}
use Rattle.load_tile.specs.declared.load.LoadRequest.{LoadRequest}
use Rattle.plan.specs.Request.{Request}
use Rattle.plan.specs.declared.types.Copy.{Copy}
use Rattle.plan.specs.Out.{Out, more, emit, Plan, plan_out}
use Rattle.plan.specs.Out.Out.{go, stop}
use Rattle.plan.specs.Load.{load_out, load_tile}
use Rattle.plan.specs.Copy.{copy_capacity, copy_of, strip_of, strip_height_of, strip_entries, copy_plan}
use Rattle.plan.specs.Whole.{plan_with}
use Rattle.plan.specs.Sound.{SoundCopy}
use Rattle.plan.proofs.Stops.{Stops, stops_go, stops_stop, stops_more, stops_bind}
use Rattle.strips.specs.Strip.{line_of, strip_bounds}
use Rattle.copy.specs.declared.types.Place.{Place}
use Rattle.copy.specs.Walk.{image_entry, area_of, request_in, too_big}
use Rattle.cells.specs.Places.{places_of, strip_out, strips_out, All, InFrame}
use Rattle.cells.proofs.Places.{plan_listed, all_map, places_in}
use Rattle.cells.specs.Course.{object_in, frame_of, Course}
use Rattle.cells.specs.Course.Course.{refused, empty, framed}
use Rattle.cells.proofs.Course.{course}

-- ---- a line of fewer texels is no longer

line_le : (siz a b : ℕ) → siz ≤ 3 → a ≤ b → line_of siz a ≤ line_of siz b
line_le zero a b h k = omega arith
line_le (suc zero) a b h k = omega arith
line_le (suc (suc zero)) a b h k = omega arith
line_le (suc (suc (suc zero))) a b h k = omega arith
line_le (suc (suc (suc (suc n)))) a b h k = absurd (omega arith)

pub line_is : (c : Copy) (x : ℕ) → (strip_of c x).line ≡ line_of c.siz (strip_of c x).load_width
unfolding strip_of
line_is c x = refl

-- ---- every strip fits

-- a strip of the image's full width and all of tmem_h's rows does
abbrev Roomy : Copy → Type 0
Roomy c = c.rows * line_of c.siz c.image_width ≤ c.capacity

strip_fits : (c : Copy) → SoundCopy c → Roomy c → (p : Place) → InFrame c 0 p → too_big p ≡ false
strip_fits c s r p i =
    let b = strip_bounds c p.x s i.within in
    let l : (strip_of c p.x).line ≤ line_of c.siz c.image_width = rw (line_is c p.x) (line_le c.siz (strip_of c p.x).load_width c.image_width s.siz (omega arith)) in
    let h : strip_height_of c p.y ≤ c.rows = omega arith in
    let m = mul-le-mul l h in
    subst (λ (v : Place). too_big v ≡ false) (sym i.is) (le-ltb c.capacity ((strip_of c p.x).line * strip_height_of c p.y) (omega arith))

strips_fit : (c : Copy) → SoundCopy c → Roomy c → All (λ p. too_big p ≡ false) (places_of c)
strips_fit c s r = all_map _ _ (places_of c) (strip_fits c s r) (places_in c)

-- ---- and so none is refused by 7

abbrev Not7 : Out (Unit {0}) → Type 0
Not7 o = Stops (λ v. eqb (verdict_number v) 7 ≡ false) o

load_not_7 : (r : Option LoadRequest) (i uls ult lrs lrt : ℕ) → Not7 (load_out r i uls ult lrs lrt)
unfolding load_out
load_not_7 (Some r) i uls ult lrs lrt = stops_go _ _
load_not_7 None i uls ult lrs lrt = stops_stop _ _ refl

entries_not_7 : (p : Place) → Not7 (strip_entries p.copy p.y p.sy p.strip_height p.x p.strip)
unfolding strip_entries load_tile
entries_not_7 p =
    let load = load_out (request_in p.copy (area_of p)) 7 _ _ _ _ in
    stops_bind (more (_ ∷ _ ∷ _ ∷ []) load) (λ _. emit _) (stops_more (_ ∷ _ ∷ _ ∷ []) load (load_not_7 (request_in p.copy (area_of p)) 7 _ _ _ _)) (λ _. stops_go _ _)

strip_not_7 : (p : Place) → too_big p ≡ false → Not7 (strip_out p)
unfolding strip_out
strip_not_7 p t = rw (t, strip_out) (entries_not_7 p)

strips_not_7 : (ps : List Place) → All (λ p. too_big p ≡ false) ps → Not7 (strips_out ps)
unfolding strips_out
strips_not_7 [] h = stops_go _ _
strips_not_7 (p ∷ ps) h = stops_bind (strip_out p) (λ _. strips_out ps) (strip_not_7 p h.0) (λ _. strips_not_7 ps h.1)

plan_not_7 : (o : Out (Unit {0})) → Not7 o → eqb (verdict_number (plan_out o).verdict) 7 ≡ false
plan_not_7 (go es u) h = refl
plan_not_7 (stop es l v) h = h.by

copy_not_7 : (c : Copy) → SoundCopy c → Roomy c → Not7 (copy_plan c)
copy_not_7 c s r = rw (plan_listed c) (stops_more (image_entry c ∷ []) (strips_out (places_of c)) (strips_not_7 (places_of c) (strips_fit c s r)))

-- by the object's own numbers, for every frame, start, flip, scissor and address, and for pointers of p bytes
pub never_7 : (p : ℕ) (q : Request) → q.opcode ≡ 10 → Bytes q.bytes
    → (object_in p q).tmem_h / 4 * line_of (object_in p q).image_siz (texels (quarters (object_in p q).image_w)) ≤ copy_capacity (object_in p q).image_fmt (object_in p q).image_siz
    → eqb (verdict_number (plan_with p q).verdict) 7 ≡ false
unfolding copy_of
never_7 p q o b r = by (course p q o b)
  where
    by : Course p q → eqb (verdict_number (plan_with p q).verdict) 7 ≡ false
    by (refused v k e) = ap (λ (w : Plan). eqb (verdict_number w.verdict) 7) e ∙ ne_eqb (verdict_number v) 7 (λ f. let h = k.high in omega arith)
    by (empty t e) = ap (λ (w : Plan). eqb (verdict_number w.verdict) 7) e
    by (framed s e) = ap (λ (w : Plan). eqb (verdict_number w.verdict) 7) e ∙ plan_not_7 (copy_plan (frame_of p q)) (copy_not_7 (frame_of p q) s (omega (arith, r)))
