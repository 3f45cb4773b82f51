-- What an entry of eleven words does to a bank's words, for hosts that follow a plan entry by entry. D is docs/SPECIFICATION.md, sections 5 and 9.
-- Assumes nothing.
use Rattle.std.specs.Prelude.{Result, Ok, Err, Bool, cond, ◌&&◌, ◌||◌, List, ℕ, eqb, ltb, get_or}
use Rattle.giving.specs.Places.{tile_at, bounds_at}
use Rattle.applying.specs.declared.NoEntry.{NoEntry}

-- the answer, and the bank's words
pub record Applied : Type 0 where
  pub answer : ℕ
  pub bank : List ℕ

abbrev pub applied : ℕ → List ℕ → Applied
applied answer bank = record { answer = answer; bank = bank }

-- the answer's number
abbrev pub answer_of : Result (Unit {0}) NoEntry → ℕ
answer_of (Ok u) = 0
answer_of (Err e) = 1

abbrev half : ℕ → Bool
half n = ltb n 65536

-- D "1 image", "5 rectangle": neither sets a tile
abbrev pub sets_nothing : List ℕ → Bool
sets_nothing e = eqb (get_or e 0 0) 1 || eqb (get_or e 0 0) 5

-- D "2 tile", of one of the eight
abbrev pub sets_tile : List ℕ → Bool
sets_tile e = eqb (get_or e 0 0) 2 && ltb (get_or e 1 0) 8

-- D "3 size", "4 load", of one of the eight and with bounds of 16 bits
abbrev pub sets_bounds : List ℕ → Bool
sets_bounds e = (eqb (get_or e 0 0) 3 || eqb (get_or e 0 0) 4) && (ltb (get_or e 1 0) 8 && (half (get_or e 2 0) && (half (get_or e 3 0) && (half (get_or e 4 0) && half (get_or e 5 0)))))

-- what the entry sets, and 0; or nothing, and 1, where the words are no entry's
unfoldable pub applied_of : (entry bank : List ℕ) → Applied
applied_of e ws =
    cond (sets_nothing e) (applied 0 ws)
    (cond (sets_tile e) (applied 0 (tile_at ws (get_or e 1 0) e 1))
    (cond (sets_bounds e) (applied 0 (bounds_at ws (get_or e 1 0) e 1))
    (applied 1 ws)))
