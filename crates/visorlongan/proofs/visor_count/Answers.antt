-- The count is the end of the whole plan; two lengths are tested first.
use Rattle.visorlongan.proofs.Left.{odd_request_there, odd_end_there, counts}
use Rattle.visorlongan.proofs.visor_count.Goals as goal

pub returns-in_default : goal.returns-in_default
returns-in_default c = odd_request_there c.args.object.now c.args.request.now c.args.end.now c.in_default.ensures

pub returns-in_default-as_mut_array : goal.returns-in_default-as_mut_array
returns-in_default-as_mut_array c = odd_end_there c.args.object.now c.args.request.now c.args.end.now c.in-Ok.ensures.0 c.in_default-as_mut_array.ensures.cases

pub returns : goal.returns
returns c =
    let a = c.args in
    let q = c.in-Ok.ensures in
    counts a.object.now a.request.now a.end.now c.in-Ok.q q.1.plan c.count-ended.result _ q.0 c.in-Some.ensures.cases.long c.count-ended.ensures c.end_numbers.ensures
