-- Each stage has its law.
use Rattle.std.proofs.Common.{arith}
use Rattle.std.specs.Int.{w64}
use mir.Val.{SFits}
use Rattle.signed.specs.Word.{rd}
use Rattle.passes.specs.Given.{give_first, give_second, give_whole, give_tile, give_image}
use Rattle.passes.proofs.step.scaled_next.Goals as goal

pub returns-in-First : goal.returns-in-First
returns-in-First c = rw c.in-First.is (give_first c.args.p _ c.tile7.ensures (rw c.in-First.is at c.requires))

pub returns-in-Second : goal.returns-in-Second
returns-in-Second c = rw c.in-Second.is (give_second c.args.p _ c.tile0.ensures (rw c.in-Second.is at c.requires))

pub returns-in-Whole : goal.returns-in-Whole
returns-in-Whole c = rw c.in-Whole.is (give_whole c.args.p _ c.image.ensures (rw c.in-Whole.is at c.requires))

pub returns-in-Tile : goal.returns-in-Tile
returns-in-Tile c =
    let f : SFits w64 c.args.p.part.destination = record { sfits = omega arith } in
    rw c.in-Tile.is (give_tile c.args.p _ (rw (rd f) at c.tile7-in-Tile.ensures) (rw c.in-Tile.is at c.requires))

pub returns-in-Image : goal.returns-in-Image
returns-in-Image c = rw c.in-Image.is (give_image c.args.p _ c.image-in-Image.ensures (rw c.in-Image.is at c.requires))
