use Rattle.std.proofs.Common.{refl, sym}
use Rattle.ti_capi.specs.Stops.{StopDone, StopRefused}
use Rattle.ti_capi.proofs.Calling.{called}
use Rattle.ti_capi.proofs.env_stops.ask.Goals as goal

pub returns-in-Ok : goal.returns-in-Ok
returns-in-Ok c = called _ _ _ _ _ _ _ (sym c.in-Some.ensures.value) c.in-Some-agent.is (StopDone _ refl c.in-Ok.ensures.took)

pub returns-in-Err : goal.returns-in-Err
returns-in-Err c = called _ _ _ _ _ _ _ (sym c.in-Some.ensures.value) c.in-Some-agent.is (StopRefused c.in-Err.error c.number.ensures c.in-Err.ensures.refused)
