-- In each arm the words are put, the entry is counted and its place noted.
use Rattle.std.proofs.Common.{rules}
use Rattle.std.specs.Int.{w64}
use mir.Val.{SFits}
use Rattle.signed.specs.Word.{rd}
use Rattle.giving.specs.Places.{placed_of}
use Rattle.giving.proofs.giving.give.Goals as goal

pub returns-in-Image : goal.returns-in-Image
unfolding placed_of
returns-in-Image c = (rw c.in-Image.is (rw c.image_words.ensures at c.store.ensures), rw c.in-Image.is c.counted-counts.ensures, rw c.in-Image.is)

pub returns-in-Tile : goal.returns-in-Tile
unfolding placed_of
returns-in-Tile c = (rw c.in-Tile.is (rw c.tile_words.ensures at c.store-in-Tile.ensures), rw c.in-Tile.is c.counted-counts-in-Tile.ensures, rw c.in-Tile.is c.tile_placed-places.ensures)

pub returns-in-Size : goal.returns-in-Size
unfolding placed_of
returns-in-Size c = (rw c.in-Size.is (rw c.size_words.ensures at c.store-in-Size.ensures), rw c.in-Size.is c.counted-counts-in-Size.ensures, rw c.in-Size.is)

pub returns-in-Load : goal.returns-in-Load
unfolding placed_of
returns-in-Load c = (rw c.in-Load.is (rw c.load_words.ensures at c.store-in-Load.ensures), rw c.in-Load.is c.counted-counts-in-Load.ensures, rw c.in-Load.is)

pub returns-in-Rect : goal.returns-in-Rect
unfolding placed_of
returns-in-Rect c =
    let e = c.in-Rect in
    let uls : SFits w64 e.uls = search rules in
    let ult : SFits w64 e.ult = search rules in
    let dsdx : SFits w64 e.dsdx = search rules in
    let dtdy : SFits w64 e.dtdy = search rules in
    let w = rw (rd uls, rd ult, rd dsdx, rd dtdy) at c.rect_words.ensures in
    (rw e.is (rw w at c.store-in-Rect.ensures), rw e.is c.counted-counts-in-Rect.ensures, rw e.is)
