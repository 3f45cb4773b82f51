-- At most 64 passes in a row draw no line (D 8.23), of any request that 6 does not refuse: its count starts natural, and a strip has 16 lines. D is docs/SPECIFICATION.md.
-- Assumes nothing.
use Rattle.std.specs.Prelude.{◌≡◌, false, ℕ, ◌≤◌}
use Rattle.std.proofs.Common.{arith}
use Rattle.object.specs.Layout.{Bytes, decode}
use Rattle.checks.proofs.Passed.{decode_range}
use Rattle.plan.specs.Request.{Request}
use Rattle.plan.specs.declared.types.Walk.{Walk}
use Rattle.plan.specs.Scaled.{clip_of, start_of, scaled_of, first_of, first_pass, slices_bad}
use Rattle.drift.proofs.Demand3.{decoded_scale}
use Rattle.drift.proofs.Lines.{first_natural, frame_least}
use Rattle.drift.specs.Idle.{Reached, Idle, reached_natural, idle_64}

-- D "At most 64 passes in a row draw no line": from any walk of a request's plan that 6 does not refuse
pub few_idle : (q : Request) → Bytes q.bytes
    → let bg = decode 4 false q.bytes in
    let c = clip_of bg q.scissor in
    let i = start_of bg c in
    let z = scaled_of bg q.mode q.address c i in
    slices_bad z ≡ false → (p n : ℕ) (w : Walk) → Reached z (first_pass z c (first_of z i) p) w → Idle z n w → n ≤ 64
few_idle q h e p n w a i =
    let bg = decode 4 false q.bytes in
    let c = clip_of bg q.scissor in
    let s = start_of bg c in
    let z = scaled_of bg q.mode q.address c s in
    let r : 16 ≤ z.frame_rows = frame_least bg q.mode q.address c s (decoded_scale q.bytes) (decode_range 4 false q.bytes h).scale_h e in
    let f = first_natural z s (omega arith) in
    let m = reached_natural z (first_pass z c (first_of z s) p) w f.0 f.1 a in
    idle_64 z n w m.0 r m.1 i
