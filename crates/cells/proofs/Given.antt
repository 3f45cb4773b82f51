-- A walk over the places that goes on to its end has given five entries for each, and every strip fits; one that stops has a verdict other than 0. A strip at a time, then the list.
-- Assumes nothing.
use Rattle.std.specs.Prelude.{◌≡◌, refl, Bool, true, false, List, [], ◌∷◌, ◌++◌, eqb, ◌+◌}
use Rattle.std.proofs.Common.{ap, ◌∙◌}
use Rattle.object.specs.declared.types.Verdict.{Verdict}
use Rattle.checks.specs.Check.{verdict_number}
use Rattle.load_tile.specs.Load.{words_of, rows_of, stride_of, offset_of, length_of, granted, request_of}
use Rattle.plan.specs.declared.types.Entry.{Entry}
use Rattle.plan.specs.Out.{Out, ◌>>◌}
use Rattle.plan.specs.Out.Out.{go, stop}
use Rattle.plan.specs.Load.{load_out, load_tile}
use Rattle.plan.specs.Copy.{field, strip_entries}
use Rattle.copy.specs.declared.types.Place.{Place}
use Rattle.copy.specs.Walk.{area_of, too_big}
use Rattle.cells.specs.Places.{strip_out, strips_out, All}
use Rattle.cells.specs.Given.{five_of, entries_of}

abbrev Refuses : Verdict → Type 0
Refuses v = eqb (verdict_number v) 0 ≡ false

abbrev Strip : Place → Out (Unit {0}) → Type 0
Strip p (go es u) = (es ≡ five_of p) × (too_big p ≡ false)
Strip p (stop es l v) = Refuses v

abbrev pub Strips : List Place → Out (Unit {0}) → Type 0
Strips ps (go es u) = (es ≡ entries_of ps) × All (λ p. too_big p ≡ false) ps
Strips ps (stop es l v) = Refuses v

five : (p : Place) → too_big p ≡ false → Strip p (strip_entries p.copy p.y p.sy p.strip_height p.x p.strip)
unfolding strip_entries load_tile load_out request_of
five p t =
    let c = p.copy in
    let a = area_of p in
    by (granted (c.address + offset_of c.siz (stride_of c.siz (field c)) a.uls a.ult) (length_of (rows_of a.ult a.lrt) (stride_of c.siz (field c)) (words_of c.siz a.uls a.lrs))) refl
  where
    by : (g : Bool) → granted (p.copy.address + offset_of p.copy.siz (stride_of p.copy.siz (field p.copy)) (area_of p).uls (area_of p).ult) (length_of (rows_of (area_of p).ult (area_of p).lrt) (stride_of p.copy.siz (field p.copy)) (words_of p.copy.siz (area_of p).uls (area_of p).lrs)) ≡ g
        → Strip p (strip_entries p.copy p.y p.sy p.strip_height p.x p.strip)
    by true g = rw g (refl, t)
    by false g = rw g refl

one : (p : Place) → Strip p (strip_out p)
unfolding strip_out
one p = by (too_big p) refl
  where
    by : (t : Bool) → too_big p ≡ t → Strip p (strip_out p)
    by true t = rw (t, strip_out) refl
    by false t = rw (t, strip_out) (five p t)

join : (p : Place) (ps : List Place) (a b : Out (Unit {0})) → Strip p a → Strips ps b → Strips (p ∷ ps) (a >> b)
unfolding entries_of
join p ps (go es u) (go fs w) h k = (ap (λ (l : List Entry). l ++ fs) h.0 ∙ ap (λ (l : List Entry). five_of p ++ l) k.0, (h.1, k.1))
join p ps (go es u) (stop fs l v) h k = k
join p ps (stop es l v) b h k = h

pub strips_given : (ps : List Place) → Strips ps (strips_out ps)
unfolding strips_out entries_of
strips_given [] = (refl, tt)
strips_given (p ∷ ps) = join p ps (strip_out p) (strips_out ps) (one p) (strips_given ps)
