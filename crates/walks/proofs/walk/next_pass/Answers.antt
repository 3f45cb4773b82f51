-- No line is left, or the passes go on.
use Rattle.std.proofs.Common.{arith, sym, ap, ◌≡◌, ◌≤ℤ◌, ℤ, pos}
use Rattle.std.specs.Int.{w64}
use mir.Val.{SFits}
use Rattle.signed.specs.Diff.{up, zarith}
use Rattle.signed.specs.Word.{rd}
use Rattle.plan.specs.Out.{plan_out}
use Rattle.walks.specs.Rounds.{passes_over}
use Rattle.walks.proofs.walk.next_pass.Goals as goal

none : (v : ℤ) → v ≤ℤ pos 0 → up v ≡ 0
none v h = omega zarith

pub returns-then-w-le0 : goal.returns-then-w-le0
returns-then-w-le0 c =
    let w = c.args.w in
    let f : SFits w64 w.frame_remain = record { sfits = omega arith } in
    let t = rw (rd f) at c.if-w-le0.true in
    sym (ap plan_out (passes_over c.args.p.scaled w (none w.frame_remain (omega zarith))))

pub running-requires : goal.running-requires
running-requires c =
    let w = c.args.w in
    let f : SFits w64 w.frame_remain = record { sfits = omega arith } in
    let t = rw (rd f) at c.if-w-le0.false in
    let h : pos 1 ≤ℤ w.frame_remain = omega zarith in
    record { scaled = c.requires.sound_scaled; walk = c.requires.sound_walk h; left = h }
