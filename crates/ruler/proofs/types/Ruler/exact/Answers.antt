-- Every sum is below 2^48.
use Rattle.std.proofs.Common.{refl, sym, ◌+◌, ◌*◌, ◌<◌, ◌≤◌, ◌^◌, arith, mul-le-mul}
use Rattle.signed.specs.Word.{rdn}
use Rattle.signed.specs.Diff.{zarith}
use Rattle.ruler.proofs.types.Ruler.exact.Goals as goal

pub returns : goal.returns
returns c =
    let i = c.self.invariant in
    let r = c.self.inside in
    let m : r.h * c.args.earlier ≤ 65535 * 2 ^ 31 = mul-le-mul i.h c.requires in
    let n : 32 * (r.start + 32 * r.carry) + r.h * c.args.earlier < 2 ^ 48 = omega (arith, i.start, i.carry) in
    rw (sym c.self.view_is, rdn (32 * (r.start + 32 * r.carry) + r.h * c.args.earlier) (omega arith)) (refl, record { low = omega zarith; high = omega zarith })
