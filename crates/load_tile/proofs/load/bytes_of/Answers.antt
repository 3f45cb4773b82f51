-- No more than eight times as many, so the shift loses nothing.
use Rattle.std.proofs.Common.{◌≤◌, ◌*◌, ◌%◌, ◌^◌, ◌≡◌, arith, mod-eq_of_lt, mul-le-mul, lit<}
use Rattle.std.proofs.Math.Nat.{pow-le-pow_right}
use Rattle.load_tile.proofs.load.bytes_of.Goals as goal

pub returns : goal.returns
returns c =
    let n = c.args.texels in
    let k = c.args.siz in
    let h : 2 ^ k ≤ 8 = pow-le-pow_right {n = 2} (lit< tt) {i = k} {j = 3} c.requires.0 in
    let m : n * 2 ^ k ≤ 65536 * 8 = mul-le-mul c.requires.1 h in
    let e : n * 2 ^ k % 2 ^ 64 ≡ n * 2 ^ k = mod-eq_of_lt (omega arith) in
    record { is = omega (arith, e); most = omega (arith, e) }
