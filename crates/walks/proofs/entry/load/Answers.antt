-- The load is the definition's: its bounds and its request, granted or not.
use Rattle.std.specs.Prelude.{◌≡◌, Result, Ok, Err, Option, Some, None, MatchResult, IsErrAnd}
use Rattle.std.proofs.Common.{lit≤}
use Rattle.tile.specs.declared.bank.Bounds.{Bounds}
use Rattle.load_tile.specs.declared.load.LoadRequest.{LoadRequest}
use Rattle.plan.specs.declared.types.Entry.{Entry}
use Rattle.plan.specs.Load.{load_tile, load_out}
use Rattle.loading.specs.Load.{answer_of}
use Rattle.loads.specs.declared.types.Refused.{Refused}
use Rattle.loads.specs.Comes.{read_in}
use Rattle.loads.specs.Sound.{loaded_out}
use Rattle.walks.proofs.entry.load.Goals as goal

-- the answer, with the error that the walk has in place of the size
given : (q : Option LoadRequest) (b : Bounds) (m : Result Entry Entry) (r : Result Entry Refused) → m ≡ answer_of q b
    → MatchResult m (λ x. r ≡ Ok x) (λ e. IsErrAnd r (λ u. u.0 ≡ e)) → loaded_out r ≡ load_out q 7 b.uls b.ult b.lrs b.lrt
unfolding load_out
given (Some q) b m r i h = let k = rw i at h in rw k
given None b m (Ok x) i h = absurd (rw i at h)
given None b m (Err s) i h = rw (rw i at h)

pub returns : goal.returns
unfolding load_tile
returns c =
    let s = c.requires.sound_part in
    let right = rw (read_in 47 _ (lit≤ tt) s.width) at c.right.ensures in
    let lower = rw (read_in 47 _ (lit≤ tt) s.rows) at c.lower.ensures in
    let load = rw (c.width_field.ensures, c.load_size-siz.ensures.0) at c.tile7_load.ensures in
    rw (← right, ← lower) (given _ _ _ _ load c.map_err.ensures.cases)
