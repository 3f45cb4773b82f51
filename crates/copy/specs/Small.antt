-- Every entry that the copy walk gives is small: its rows, its line, and what a tile keeps of it.
-- Assumes nothing.
use Rattle.std.specs.Prelude.{◌≡◌, Ok, Err, Option, Some, None, refl, Bool, true, false, cond, ℕ, ◌≤◌, eqb}
use Rattle.std.proofs.Common.{arith}
use Rattle.tile.specs.declared.bank.Bounds.{Bounds}
use Rattle.load_tile.specs.declared.load.LoadRequest.{LoadRequest}
use Rattle.load_tile.specs.Load.{rows_in_request}
use Rattle.load_tile.specs.Rows.{rows_in}
use Rattle.plan.specs.Sound.{SoundCopy, Narrow, EntryIn}
use Rattle.copy.specs.declared.types.Due.{Due}
use Rattle.copy.specs.declared.types.Due.TheVariants as due
use Rattle.copy.specs.declared.types.Stage.{Stage}
use Rattle.copy.specs.declared.types.Stage.TheVariants as stage
use Rattle.copy.specs.declared.types.Place.{Place}
use Rattle.copy.specs.declared.types.CopyEnd.TheVariants as end
use Rattle.copy.specs.Walk.{CopyStep, SoundAt, tile_entry, tile0_entry, size_entry, area_of, request_in, due_entry, too_big, tile7_next, load_next, strip_next, copy_next_of}

-- the entry that is given, and the size that a refused load has set
abbrev pub NextIn : CopyStep → Type 0
NextIn (Ok n) = EntryIn n.0
NextIn (Err end.TooBig) = Unit {0}
NextIn (Err (end.Overflow e)) = Narrow e
NextIn (Err end.Finished) = Unit {0}

-- a load's bounds
record AreaIn (a : Bounds) : Type 0 where
  pub uls : a.uls ≤ 65535
  pub ult : a.ult ≤ 65535
  pub lrs : a.lrs ≤ 65535
  pub lrt : a.lrt ≤ 65535

area_in : (p : Place) → AreaIn (area_of p)
area_in p = record { uls = omega arith; ult = omega arith; lrs = omega arith; lrt = omega arith }

tile_in : (p : Place) (index cms masks : ℕ) → SoundCopy p.copy → cms ≤ 255 → masks ≤ 255 → index ≡ cond (eqb index 7) 7 0 → EntryIn (tile_entry p index cms masks)
tile_in p index cms masks s h k i =
    record {
      rows = omega arith;
      line = omega arith;
      narrow = (s.fmt, (omega arith, (omega arith, (omega arith, (s.palette, (h, (omega arith, (k, omega arith))))))));
      names = i;
    }

chosen : (t : Bool) (n : ℕ) → n ≤ 255 → cond t n 0 ≤ 255
chosen true n h = h
chosen false n h = omega arith

tile7_in : (t : Bool) (p : Place) → SoundCopy p.copy → NextIn (tile7_next t p)
unfolding tile7_next
tile7_in true p s = tt
tile7_in false p s = tile_in p 7 0 0 s (omega arith) (omega arith) refl

tile0_in : (p : Place) → SoundCopy p.copy → EntryIn (tile0_entry p)
tile0_in p s = tile_in p 0 _ _ s (chosen p.copy.flip 1 (omega arith)) (chosen p.copy.flip 15 (omega arith)) refl

size_in : (p : Place) → EntryIn (size_entry p)
size_in p = record { rows = omega arith; line = omega arith; narrow = (omega arith, (omega arith, (omega arith, omega arith))); names = refl }

load_in : (q : Option LoadRequest) (a : Bounds) (p : Place) → rows_in_request q ≤ 16384 → AreaIn a → NextIn (load_next q a p)
unfolding load_next
load_in (Some r) a p h k = record { rows = h; line = omega arith; narrow = (k.uls, (k.ult, (k.lrs, k.lrt))); names = refl }
load_in None a p h k = (k.uls, (k.ult, (k.lrs, k.lrt)))

due_in : (d : Due) (p : Place) → EntryIn (due_entry d p)
due_in due.Image p = record { rows = omega arith; line = omega arith; narrow = tt; names = tt }
due_in due.Rect p = record { rows = omega arith; line = omega arith; narrow = tt; names = tt }

strip_in : (t u : Bool) (d : Due) (p : Place) → NextIn (strip_next t u d p)
unfolding strip_next
strip_in true u d p = due_in d p
strip_in false true d p = due_in d p
strip_in false false d p = due_in d p

pub next_in : (s : Stage) (p : Place) → SoundAt s p → NextIn (copy_next_of s p)
unfolding copy_next_of
next_in (stage.Strip d) p h = strip_in _ _ d p
next_in stage.Tile7 p h = tile7_in (too_big p) p h.copy
next_in stage.Tile0 p h = tile0_in p h.copy
next_in stage.Size p h = size_in p
next_in stage.Load p h = load_in (request_in p.copy (area_of p)) (area_of p) p (rows_in _ _ _ _ _ _ _ (omega arith)) (area_in p)
next_in stage.Done p h = tt
