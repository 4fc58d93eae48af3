use Rattle.std.proofs.Common.{sym}
use Rattle.ti_capi.proofs.Calling.{called}
use Rattle.ti_capi.proofs.Stopping.{broken}
use Rattle.ti_capi.proofs.env_stops.cq_set_breakpoint.Goals as goal

pub returns : goal.returns
returns c =
    called _ _ _ _ _ _ _ (sym c.in-Some.ensures.value) c.in-Some-agent.is (broken _ _ _ _ _ c.set_breakpoint_now.result _ c.set_breakpoint_now.ensures.done c.set_breakpoint_now.ensures.refused c.code_of.ensures)
