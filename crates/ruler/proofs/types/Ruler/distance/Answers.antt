-- No sum wraps, as m times the image's rows is within the strip's row.
use Rattle.std.proofs.Common.{◌≡◌, sym, ◌+◌, ◌*◌, ◌<◌, ◌^◌, arith, ℤ, pos, ◌-ℤ◌, ◌*ℤ◌, to_z, of_z}
use Rattle.std.specs.Int.{w64}
use Rattle.signed.specs.Word.{rd, rdn, rk}
use Rattle.measures.specs.Range.{Within}
use Rattle.plan.specs.Demand.{Drift, wholes}
use Rattle.ruler.specs.Ruler.{drift_in, SoundRuler}
use Rattle.ruler.specs.Drifts.{StripOf}
use Rattle.ruler.proofs.Ranges.{rows_in, images_in, near_in, distance_in, wide_fits, first_line}
use Rattle.ruler.proofs.types.Ruler.distance.Goals as goal
use Rattle.ruler.proofs.types.Ruler.distance.Goals.{After-exact, After-wholes}

abbrev images : Drift → ℤ → ℤ
images r k = pos (256 * r.image_h) *ℤ wholes r k

within : {r : Drift} {k : ℤ} → SoundRuler r → StripOf r k → Within 60 (images r k)
within {r} h s = images_in r.image_h r.source_rows _ h.image_h h.source_rows h.source_rows' (rows_in h s)

-- the product of the code is the definition's
product : (c : After-wholes) → to_z w64 (256 * c.self.inside.image_h) *ℤ to_z w64 (of_z w64 c.wholes.result) ≡ images (drift_in c.self.inside) c.args.k
product c =
    let n : 256 * c.self.inside.image_h < 2 ^ 63 = omega (arith, c.self.invariant.image_h, c.self.invariant.source_rows') in
    let w = rw (rd c.ranges.k, sym c.self.view_is) at c.wholes.ensures in
    rw (rdn (256 * c.self.inside.image_h) n, rk c.wholes.result c.wholes.type_inv, w)

small : (c : After-wholes) → Within 60 (images (drift_in c.self.inside) c.args.k)
small c = within c.self.invariant (rw (sym c.self.view_is) at c.requires.0)

near : (c : After-exact) → Within 49 (c.sampled.result -ℤ c.exact.result)
near c = near_in _ _ c.sampled.ensures.1 c.exact.ensures.1

pub overflow_mul-result-2 : goal.overflow_mul-result-2
overflow_mul-result-2 c = let g = (goal.at.overflow_mul-result-2 c).After-wholes in rw (product g) (wide_fits {n = 60} (omega arith) (small g))

pub overflow_add-result : goal.overflow_add-result
overflow_add-result c =
    let g = (goal.at.overflow_add-result c).After-wholes in
    let n = near (goal.at.overflow_add-result c).After-exact in
    rw (rk c.sampled.result c.sampled.type_inv, rk c.exact.result c.exact.type_inv, rd (wide_fits {n = 49} (omega arith) n), product g, rd (wide_fits {n = 60} (omega arith) (small g)))
    (wide_fits {n = 61} (omega arith) (distance_in _ _ n (small g)))

pub returns : goal.returns
returns c =
    let g = (goal.at.returns c).After-wholes in
    let n = near (goal.at.returns c).After-exact in
    let r = c.self.inside in
    let s = rw (rd c.ranges.ult) at c.sampled.ensures.0 in
    rw (sym c.self.view_is)
    (rw (rk c.sampled.result c.sampled.type_inv, rk c.exact.result c.exact.type_inv, rd (wide_fits {n = 49} (omega arith) n), product g, rd (wide_fits {n = 60} (omega arith) (small g)), rd (wide_fits {n = 61} (omega arith) (distance_in _ _ n (small g))), s, rw (sym c.self.view_is) at c.exact.ensures.0)
    (first_line (1024 * c.args.row) (32 * (r.start + 32 * r.carry)) r.h c.args.earlier (pos 32 *ℤ c.args.ult) (images (drift_in r) c.args.k)))
