-- A pass without a line keeps a place's ranges.
use Rattle.std.proofs.Common.{◌+◌, sym, arith}
use Rattle.signed.specs.Word.{rd}
use Rattle.ruler.proofs.Ranges.{place_fits, pass_in}
use Rattle.ruler.proofs.strip.idle.Goals as goal

pub invariant_of-result : goal.invariant_of-result
invariant_of-result c =
    let p = c.p.inside in
    let q = rw (sym c.p.view_is) at c.requires in
    let n = pass_in c.p.invariant p.left (p.count + c.r.inside.frame_rows) p.earlier q.1 (omega (arith, c.r.invariant.frame_rows)) (omega arith) in
    rw (rd (place_fits c.p.invariant), rd (place_fits n)) n
