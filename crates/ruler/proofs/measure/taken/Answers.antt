-- A rectangle is measured; the check finds that any other entry is passed over.
use Rattle.std.proofs.Common.{ℤ, SFits}
use Rattle.std.specs.Int.{w64}
use Rattle.signed.specs.Word.{rd}
use Rattle.signed.specs.Diff.{zarith}
use Rattle.small.specs.Small.{Signed16}
use Rattle.ruler.proofs.measure.taken.Goals as goal

ult_fits : {z : ℤ} → Signed16 z → SFits w64 z
ult_fits h = omega zarith

pub returns-in-Rect : goal.returns-in-Rect
returns-in-Rect c =
    let s = rw c.in-Rect.is at c.requires.1 in
    rw c.in-Rect.is (rw (rd (ult_fits s.1.1.0)) at c.rect_taken.ensures _ _ _ _ _ _)
