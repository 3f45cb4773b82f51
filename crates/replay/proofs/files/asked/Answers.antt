-- 64 bytes are no short case.
use Rattle.std.proofs.Common.{◌≡◌, ◌∙◌, sym, refl, List, ℕ, ◌≤◌, length, arith}
use Rattle.std.specs.Option.{IsSome}
use Rattle.std.specs.Prelude.{Option, Some, None}
use Rattle.request.specs.declared.types.Request.{Request}
use Rattle.request.specs.Stored.{case_of, request_of, short_of}
use Rattle.replay.proofs.files.asked.Goals as goal

some : (bs : List ℕ) (q : Option Request) → q ≡ case_of bs → 61 ≤ length bs → IsSome q
some bs (Some q) e h = refl
some bs None e h = absurd (omega (arith, short_of bs e))

pub unwrap-requires : goal.unwrap-requires
unwrap-requires c = some c.args.bytes.now _ c.from_bytes.ensures (omega (arith, c.told-bytes))

pub returns : goal.returns
returns c = (request_of c.args.bytes.now c.unwrap.result (sym c.unwrap.ensures ∙ c.from_bytes.ensures)).1
