use Rattle.std.proofs.Common.{◌+◌, ◌≤◌, refl, arith}
use Rattle.ti_debugger.proofs.PopLaws.{gone_first}
use Rattle.ti_debugger.proofs.desk.Desk.popping_of.Goals as goal

pub invariant_of-result : goal.invariant_of-result
invariant_of-result c =
    let depth = c.frame_of-of.result.1 in
    let within : depth + 1 ≤ depth + 1 = omega arith in
    record { within = within; gone = gone_first _ depth (depth + 1) refl }
