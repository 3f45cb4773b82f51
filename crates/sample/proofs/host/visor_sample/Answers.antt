-- Two lengths are tested, and the rest is what the engine answers.
use Rattle.std.specs.Prelude.{List, ℕ, get_or}
use Rattle.std.proofs.Common.{ap, ◌∙◌}
use Rattle.object.specs.declared.types.Scissor.{Scissor}
use Rattle.request.specs.Host.{edges_kept}
use Rattle.sample.specs.Engine.{sample_of}
use Rattle.sample.specs.Host.{cell_left}
use Rattle.sample.proofs.Left.{odd_scissor, odd_out, sample_left}
use Rattle.sample.proofs.host.visor_sample.Goals as goal

pub returns-in_default : goal.returns-in_default
returns-in_default c = let a = c.args in odd_scissor a.object.now a.scissor.now a.column a.line a.out.now c.in_default.ensures.cases

pub returns-in_default-as_mut_array : goal.returns-in_default-as_mut_array
returns-in_default-as_mut_array c = let a = c.args in odd_out a.object.now a.scissor.now a.column a.line a.out.now c.in-Some.ensures.cases.long c.in_default-as_mut_array.ensures.cases

pub returns : goal.returns
returns c =
    let a = c.args in
    ap (λ (ws : List ℕ). cell_left 0 ws) c.words_of.ensures
    ∙ sample_left a.object.now a.scissor.now a.column a.line a.out.now c.in-Some.ensures.cases.long c.in-Some-as_mut_array.ensures.cases.long
    (c.sample.ensures ∙ ap (λ (s : Scissor). sample_of 4 a.object.now s a.column a.line) (c.scissor_from-scissor.ensures ∙ ap (λ (ws : List ℕ). edges_kept (get_or ws 0 0) (get_or ws 1 0) (get_or ws 2 0) (get_or ws 3 0)) c.in-Some.ensures.cases.same))
