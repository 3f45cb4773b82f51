-- Of every finished copy plan of a request, for pointers of p bytes: its rectangles meet each cell of the clipped frame once and nothing else, and its loads lie inside the image. By what such a plan's entries are.
-- Assumes nothing.
use Rattle.std.specs.Prelude.{◌≡◌, ℕ}
use Rattle.object.specs.declared.types.Verdict.TheVariants as verdict
use Rattle.object.specs.Layout.{Bytes}
use Rattle.plan.specs.Request.{Request}
use Rattle.plan.specs.Whole.{plan_with}
use Rattle.cells.specs.Met.{EveryCellOnce}
use Rattle.cells.specs.Course.{frame_of}
use Rattle.cells.proofs.Once.{once, empty_once}
use Rattle.cells.proofs.Loads.{plan_loads}
use Rattle.cells.proofs.Finished.{of_finished}

pub every_cell_once : (p : ℕ) (q : Request) → q.opcode ≡ 10 → Bytes q.bytes → (plan_with p q).verdict ≡ verdict.Finished → EveryCellOnce (frame_of p q) (plan_with p q).entries
every_cell_once p q o b f =
    of_finished p q o b f (EveryCellOnce (frame_of p q)) (λ t. record { cells = empty_once (frame_of p q) t; loads = tt })
    (λ s h. record { cells = once (frame_of p q) s; loads = plan_loads (frame_of p q) s h })
