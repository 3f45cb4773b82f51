-- The product and the sum are read back.
use Rattle.std.proofs.Common.{◌≡◌, refl, sym, ◌<◌, ◌^◌, arith, pos, ◌+ℤ◌, ◌*ℤ◌, ◌∙◌, to_z, of_z}
use Rattle.std.specs.Int.{w64}
use Rattle.signed.specs.Word.{rd, rdn, rk}
use Rattle.measures.specs.Measure.{whole_rows}
use Rattle.ruler.specs.Ruler.{drift_in}
use Rattle.ruler.specs.Drifts.{StripOf}
use Rattle.ruler.proofs.Ranges.{top_in, top_rows_in, wide_fits}
use Rattle.ruler.proofs.types.Ruler.top_row.Goals as goal
use Rattle.ruler.proofs.types.Ruler.top_row.Goals.{After-self, After-whole_rows}

strip : (c : After-self) → StripOf (drift_in c.self.inside) c.args.k
strip c = rw (sym c.self.view_is) at c.requires

product : (c : After-self) → to_z w64 c.self.inside.image_rows *ℤ to_z w64 (of_z w64 c.args.k) ≡ pos c.self.inside.image_rows *ℤ c.args.k
product c = let n : c.self.inside.image_rows < 2 ^ 63 = omega (arith, c.self.invariant.image_rows) in rw (rdn c.self.inside.image_rows n, rd c.ranges.k)

-- the sum of the code is the definition's
sum : (c : After-whole_rows) → to_z w64 (of_z w64 (to_z w64 c.self.inside.image_rows *ℤ to_z w64 (of_z w64 c.args.k))) +ℤ to_z w64 (of_z w64 c.whole_rows.result) ≡ pos c.self.inside.image_rows *ℤ c.args.k +ℤ whole_rows c.self.inside.origin
sum c =
    let g = (goal.at.overflow_add-result c).After-self in
    let i = c.self.invariant in
    let origin = rk c.whole_rows.result c.whole_rows.type_inv ∙ rw (rd (wide_fits {n = 31} (omega arith) i.origin)) at c.whole_rows.ensures in
    rw (product g, rd (wide_fits {n = 46} (omega arith) (top_in i (strip g))), origin)

pub overflow_mul-result : goal.overflow_mul-result
overflow_mul-result c = rw (product (goal.at.overflow_mul-result c).After-self) (wide_fits {n = 46} (omega arith) (top_in c.self.invariant (strip (goal.at.overflow_mul-result c).After-self)))

pub overflow_add-result : goal.overflow_add-result
overflow_add-result c = rw (sum c) (wide_fits {n = 47} (omega arith) (top_rows_in c.self.invariant (rw (sym c.self.view_is) at c.requires)))

pub returns : goal.returns
returns c =
    let w = top_rows_in c.self.invariant (rw (sym c.self.view_is) at c.requires) in
    rw (sum c, rd (wide_fits {n = 47} (omega arith) w), sym c.self.view_is) (refl, w)
