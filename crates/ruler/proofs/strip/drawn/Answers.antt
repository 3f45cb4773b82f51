-- A strip that draws keeps a place's ranges.
use Rattle.std.proofs.Common.{◌+◌, ◌%◌, sym, arith}
use Rattle.signed.specs.Word.{rd}
use Rattle.ruler.proofs.Ranges.{place_fits, pass_in}
use Rattle.ruler.proofs.strip.drawn.Goals as goal

pub invariant_of-result : goal.invariant_of-result
invariant_of-result c =
    let p = c.p.inside in
    let q = rw (sym c.p.view_is) at c.requires in
    let n = pass_in c.p.invariant c.saturating_sub.result (p.count % 1024 + c.r.inside.frame_rows) (p.earlier + c.args.lines) q.1 (omega (arith, c.r.invariant.frame_rows)) (omega arith) in
    rw (rd (place_fits c.p.invariant), rd (place_fits n)) n
