-- Two lengths are tested, and the rest is what measuring leaves.
use Rattle.measuring.proofs.Left.{odd_request, odd_told, measured_host}
use Rattle.measuring.proofs.visor_drift.Goals as goal

pub returns-in_default : goal.returns-in_default
returns-in_default c = let a = c.args in odd_request a.object.now a.request.now a.drift.now a.told.now c.in_default.ensures

pub returns-in_default-as_mut_array : goal.returns-in_default-as_mut_array
returns-in_default-as_mut_array c = let a = c.args in odd_told a.object.now a.request.now a.drift.now a.told.now c.in-Ok.ensures.0 c.in_default-as_mut_array.ensures.cases

pub returns : goal.returns
returns c =
    let a = c.args in
    let q = c.in-Ok.ensures in
    measured_host a.object.now a.request.now a.drift.now a.told.now _ (q.1.alike a.object.now) _ _ q.0 c.in-Some.ensures.cases.long c.measured.ensures
