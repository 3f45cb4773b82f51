-- Each call gives one field; an edge of two bytes reads back as the number that it is.
use Rattle.std.proofs.Common.{◌∙◌, ap, pos}
use Rattle.object.proofs.Edges.{edge_is}
use Rattle.request.specs.Stored.{asked_at}
use Rattle.request.proofs.stored.asked.Goals as goal

pub returns : goal.returns
unfolding asked_at
returns c =
    λ i.
    record {
      opcode = c.byte.ensures i;
      scissor = record {
        ulx = edge_is c.into.type_inv (c.into.ensures ∙ ap pos c.half.ensures) i;
        uly = edge_is c.into-2.type_inv (c.into-2.ensures ∙ ap pos c.half-2.ensures) i;
        lrx = edge_is c.into-3.type_inv (c.into-3.ensures ∙ ap pos c.half-3.ensures) i;
        lry = edge_is c.into-4.type_inv (c.into-4.ensures ∙ ap pos c.half-4.ensures) i;
      };
      mode = c.word.ensures i;
      address = c.field_from.ensures.is i;
    }
