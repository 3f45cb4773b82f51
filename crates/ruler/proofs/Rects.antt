-- A rectangle is measured at the strip that draws next.
-- Assumes nothing.
use Rattle.std.proofs.Common.{◌≡◌, sym, ap, ◌∙◌, List, ◌∷◌, ℕ, ◌-◌, ◌/◌, ℤ}
use Rattle.std.specs.Prelude.{Ok, Some}
use Rattle.plan.specs.declared.types.Entry.TheVariants as entry
use Rattle.plan.specs.Demand.{ahead, aheads}
use Rattle.ruler.specs.declared.types.Ruler.{Ruler}
use Rattle.ruler.specs.declared.types.Place.{Place}
use Rattle.ruler.specs.declared.types.Begun.{Begun}
use Rattle.ruler.specs.Drifts.{strips_from, drawn_from, SoundPlace, NextAt, RectIs}
use Rattle.ruler.proofs.Ranges.{drawn_place}

module _ (r : Ruler) (p : Place) (uly lry : ℕ) (ult : ℤ) (row : ℕ) where
  pub rect_is : (s : Place) (b : Begun) (t : Place) → SoundPlace r p → NextAt r.frame_rows p s
      → b ≡ record { line = s.earlier; strip = s.k; distance = ahead r s.k row ult s.earlier 0 } → t ≡ drawn_from r.frame_rows s ((lry - uly) / 4) → RectIs r p uly lry ult row (Ok (Some (b, t)))
  unfolding aheads
  rect_is s b t g n eb et = λ i ulx lrx uls dsdx dtdy.
      rw (eb, et)
      (record {
        is = λ es.
            ap (λ (ks : List ℤ). aheads r p.earlier ks (entry.Rect i ulx uly lrx lry uls ult dsdx dtdy row ∷ es)) n.strips
            ∙ ap (λ (m : ℕ). aheads r m (s.k ∷ strips_from r.frame_rows (drawn_from r.frame_rows s 0)) (entry.Rect i ulx uly lrx lry uls ult dsdx dtdy row ∷ es)) (sym n.earlier);
        sound = drawn_place g n ((lry - uly) / 4);
      })
