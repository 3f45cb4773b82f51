-- The sums are the definition's, and lie within 2^48.
use Rattle.std.proofs.Common.{◌≡◌, ◌<◌, ◌^◌, arith, cond, sym, pos, ◌+ℤ◌, ◌*ℤ◌, ◌∙◌, to_z, of_z}
use Rattle.std.specs.Int.{w64}
use Rattle.std.specs.Int.Signed.{le_z}
use Rattle.signed.specs.Word.{rd, rdn, rk}
use Rattle.signed.specs.Diff.{zarith}
use Rattle.measures.specs.Measure.{whole_rows}
use Rattle.ruler.proofs.Ranges.{rows_in, wide_fits, carry_fits}
use Rattle.ruler.proofs.types.Ruler.wholes.Goals as goal
use Rattle.ruler.proofs.types.Ruler.wholes.Goals.{After-above}

-- the sum of the code is the definition's
sum : (c : After-above) → to_z w64 (of_z w64 (to_z w64 (of_z w64 c.top_row.result) +ℤ to_z w64 c.self.inside.carry)) +ℤ to_z w64 (of_z w64 c.above.result)
    ≡ pos c.self.inside.image_rows *ℤ c.args.k +ℤ whole_rows c.self.inside.origin +ℤ pos c.self.inside.carry +ℤ cond (le_z c.args.k c.self.inside.slice) c.self.inside.first_rows (pos 0)
sum c =
    let r = c.self.invariant in
    let slice = rd (wide_fits {n = 45} (omega arith) r.slice) in
    let rows = rd (wide_fits {n = 28} (omega arith) r.first_rows) in
    let n : c.self.inside.carry < 2 ^ 63 = omega (arith, r.carry) in
    let t = rw (rd c.ranges.k, sym c.self.view_is) at c.top_row.ensures.0 in
    let w = rw t at c.top_row.ensures.1 in
    let a = rw (rd c.ranges.k, slice, rows) at c.above.ensures in
    rw (rk c.top_row.result c.top_row.type_inv, t, rdn c.self.inside.carry n, rd (carry_fits _ c.self.inside.carry w r.carry), rk c.above.result c.above.type_inv, a)

pub overflow_add-rows-2 : goal.overflow_add-rows-2
overflow_add-rows-2 c = rw (sum (goal.at.overflow_add-rows-2 c).After-above) (wide_fits {n = 48} (omega arith) (rows_in c.self.invariant (rw (sym c.self.view_is) at c.requires)))

pub floor_div-requires-clause-pos_bound : goal.floor_div-requires-clause-pos_bound
floor_div-requires-clause-pos_bound c =
    let w = rows_in c.self.invariant (rw (sym c.self.view_is) at c.requires) in
    rw (sum (goal.at.floor_div-requires-clause-pos_bound c).After-above, rd (wide_fits {n = 48} (omega arith) w)) (omega (zarith, w.low))

pub returns : goal.returns
returns c =
    let w = rows_in c.self.invariant (rw (sym c.self.view_is) at c.requires) in
    rw (sym c.self.view_is) (rk c.floor_div.result c.floor_div.type_inv ∙ rw (sum (goal.at.returns c).After-above, rd (wide_fits {n = 48} (omega arith) w)) at c.floor_div.ensures)
