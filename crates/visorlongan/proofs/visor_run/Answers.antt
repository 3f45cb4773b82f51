-- The parts keep their promises, one after another; three lengths are tested first.
use Rattle.visorlongan.proofs.Left.{odd_request, odd_bank, odd_end, ran}
use Rattle.visorlongan.proofs.visor_run.Goals as goal

pub returns-in_default : goal.returns-in_default
returns-in_default c = let a = c.args in odd_request a.object.now a.request.now a.bank.now a.plan.now a.end.now c.in_default.ensures

pub returns-in_default-as_mut_array : goal.returns-in_default-as_mut_array
returns-in_default-as_mut_array c =
    let a = c.args in odd_bank a.object.now a.request.now a.bank.now a.plan.now a.end.now c.in-Ok.ensures.0 c.in_default-as_mut_array.ensures.cases

pub returns-in_default-as_mut_array-2 : goal.returns-in_default-as_mut_array-2
returns-in_default-as_mut_array-2 c =
    let a = c.args in
    let b = c.in-Some.ensures.cases in
    rw b.same (odd_end a.object.now a.request.now a.bank.now a.plan.now a.end.now c.in-Ok.ensures.0 b.long c.in_default-as_mut_array-2.ensures.cases)

pub returns : goal.returns
returns c =
    let a = c.args in
    let q = c.in-Ok.ensures in
    let b = c.in-Some.ensures.cases in
    ran a.object.now a.request.now a.bank.now a.plan.now a.end.now c.in-Ok.q q.1.plan _ _ _ c.run-ended.result q.0 b.long c.in-Some-as_mut_array.ensures.cases.long (rw b.same at c.run-ended.ensures) c.end_numbers.ensures
