-- What callers may count on of a load request, whose definition stays shut to them.
-- Assumes nothing.
use Rattle.std.specs.Prelude.{Bool, true, false, ℕ, ◌+◌, ◌-◌, ◌*◌, ◌≤◌, ◌<◌}
use Rattle.std.proofs.Common.{arith}
use Rattle.load_tile.specs.declared.load.LoadRequest.{LoadRequest}
use Rattle.load_tile.specs.Load.{words_of, rows_of, stride_of, offset_of, granted, pick, request_of, rows_in_request}

picked_rows : (t : Bool) (r : LoadRequest) (m : ℕ) → r.rows ≤ m → rows_in_request (pick t r) ≤ m
picked_rows true r m h = h
picked_rows false r m h = omega arith

-- a request asks for at most 16,384 rows
pub rows_in : (siz width address uls ult lrs lrt : ℕ) → lrt < 65536 → rows_in_request (request_of siz width address uls ult lrs lrt) ≤ 16384
unfolding request_of
rows_in siz width address uls ult lrs lrt h =
    let stride = stride_of siz width in
    let length = (rows_of ult lrt - 1) * stride + 8 * words_of siz uls lrs in
    picked_rows (granted (address + offset_of siz stride uls ult) length) _ 16384 (omega arith)
