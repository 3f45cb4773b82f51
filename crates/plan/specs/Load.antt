-- Loads and address sums as parts of a plan. D is docs/SPECIFICATION.md.
-- Assumes nothing.
use Rattle.std.specs.Prelude.{true, false, [], ◌∷◌, ℕ, ◌^◌, ltb, ℤ, pos, ◌+ℤ◌, Option, Some, None}
use Rattle.std.specs.Int.Signed.{lt_z}
use Rattle.signed.specs.Diff.{up}
use Rattle.object.specs.declared.types.Verdict.TheVariants as verdict
use Rattle.load_tile.specs.declared.load.LoadRequest.{LoadRequest}
use Rattle.load_tile.specs.Load.{request_of}
use Rattle.plan.specs.declared.types.Entry.TheVariants.{Size, Load}
use Rattle.plan.specs.Out.{Out}
use Rattle.plan.specs.Out.Out.{go, stop}

-- the entry of a load that was granted; else the verdict, and the size that the load has set
unfoldable pub load_out : Option LoadRequest → (index uls ult lrs lrt : ℕ) → Out (Unit {0})
load_out (Some r) i uls ult lrs lrt = go (Load i uls ult lrs lrt r.words r.rows r.stride r.start r.length ∷ []) tt
load_out None i uls ult lrs lrt = stop [] (Size i uls ult lrs lrt ∷ []) verdict.Address

-- T 392–415 `load_tile_typed` with the texture image's siz, width field and address; D "The size is set first"
unfoldable pub load_tile : (siz width address index uls ult lrs lrt : ℕ) → Out (Unit {0})
unfolding load_out
load_tile siz width address i uls ult lrs lrt = load_out (request_of siz width address uls ult lrs lrt) i uls ult lrs lrt

-- R 101–115 `source_address`, D verdict 9 "an address sum leaves 0..2^64 − 1"
unfoldable pub source_address : ℕ → ℤ → Out ℕ
source_address address offset =
    let sum = pos address +ℤ offset in
    elim (lt_z sum (pos 0)) [ true ↦ stop [] [] verdict.Address | false ↦ elim (ltb (up sum) (2 ^ 64)) [ true ↦ go [] (up sum) | false ↦ stop [] [] verdict.Address ] ]
