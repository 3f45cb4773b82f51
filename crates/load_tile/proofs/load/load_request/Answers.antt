-- The definitions are rewritten to the callees' results; the request is there where its start is.
use Rattle.std.specs.Prelude.{◌≡◌, Bool, true, false, Option, Some, None, ℕ}
use Rattle.std.specs.Option.{option_map}
use Rattle.std.proofs.Common.{ap}
use Rattle.load_tile.specs.declared.load.LoadRequest.{LoadRequest}
use Rattle.load_tile.specs.Load.{pick, request_of}
use Rattle.load_tile.proofs.load.load_request.Goals as goal

abbrev request_at : (words rows stride length start : ℕ) → LoadRequest
request_at words rows stride length start = record { words = words; rows = rows; stride = stride; start = start; length = length }

carried : (t : Bool) (o : Option ℕ) (start words rows stride length : ℕ) → o ≡ pick t start → option_map (request_at words rows stride length) o ≡ pick t (request_at words rows stride length start)
carried true o start words rows stride length h = ap (option_map (request_at words rows stride length)) h
carried false o start words rows stride length h = ap (option_map (request_at words rows stride length)) h

pub returns-in_err-start : goal.returns-in_err-start
unfolding request_of
returns-in_err-start c =
    let h = rw c.in_err-start.was at c.granted_start.ensures in
    let o = rw (c.from.ensures, c.from-2.ensures, c.from-3.ensures) at c.offset-offset.ensures in
    rw c.from_residual.ensures
    (simp (← c.words_per_row-words.ensures.is, ← c.row_count-rows.ensures.is, ← c.bytes_per_row-stride.ensures.is, ← o, ← c.length-length.ensures) (carried _ None _ _ _ _ _ h))

pub returns : goal.returns
unfolding request_of
returns c =
    let h = rw c.in_ok-start.was at c.granted_start.ensures in
    let o = rw (c.from.ensures, c.from-2.ensures, c.from-3.ensures) at c.offset-offset.ensures in
    simp (← c.words_per_row-words.ensures.is, ← c.row_count-rows.ensures.is, ← c.bytes_per_row-stride.ensures.is, ← o, ← c.length-length.ensures) (carried _ (Some _) _ _ _ _ _ h)
