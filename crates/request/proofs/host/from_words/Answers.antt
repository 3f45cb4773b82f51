-- Field by field it is what is kept of the words, and what is cut leaves the plan as it is.
use Rattle.std.proofs.Common.{◌≡◌, sym, ap, subst, ◌∙◌, get_or}
use Rattle.plan.specs.Whole.{plan_of}
use Rattle.request.specs.declared.types.Request.{Request}
use Rattle.request.specs.Host.{with_bytes, host_request, request_kept, Alike}
use Rattle.request.proofs.Cut.{cut, alike}
use Rattle.request.proofs.host.from_words.Goals as goal

pub returns : goal.returns
returns c =
    let ws = c.args.words.now in
    let kept : _ ≡ request_kept ws =
    λ i.
    record {
      opcode = c.opcode.ensures i;
      scissor = c.scissor_from.ensures i;
      mode = c.mode.ensures i;
      address = get_or ws 6 0;
    } in
    record {
      plan = λ bytes. ap (λ (r : Request). plan_of (with_bytes bytes r)) kept ∙ cut bytes ws;
      alike = λ bytes. subst (λ (r : Request). Alike (with_bytes bytes r) (host_request bytes ws)) (sym kept) (alike bytes ws);
    }
