use Rattle.std.proofs.Common.{◌∙◌, ap, refl, subst, sym}
use Rattle.ti_stops.specs.declared.call.StopCall.TheVariants.{Next}
use Rattle.ti_stops.specs.declared.call.StopReply.{StopReply}
use Rattle.ti_stops.specs.declared.call.StopReply.TheVariants.{Told}
use Rattle.ti_service.specs.Stops.{AgentCalls}
use Rattle.ti_capi.specs.Stops.{StopTold, StopUntold}
use Rattle.ti_capi.proofs.Calling.{called}
use Rattle.ti_capi.proofs.env_stops.cq_next_stop.Goals as goal

pub returns-in-Ok-Told-Some : goal.returns-in-Ok-Told-Some
returns-in-Ok-Told-Some c =
    let took = subst (λ (r : StopReply). AgentCalls c.in-Some-agent.agent c.stop_now.new.self Next r) (c.in-Ok-Told-Some.field-0-is ∙ ap (λ o. Told o) c.in-Ok-Told-Some.field-0-0-is) c.in-Ok-Told-Some.ensures.took in
    called _ _ _ _ _ _ _ (sym c.in-Some.ensures.value) c.in-Some-agent.is (StopTold c.in-Ok-Told-Some.told refl took c.stop_out.ensures)

pub returns-in-Err : goal.returns-in-Err
returns-in-Err c = called _ _ _ _ _ _ _ (sym c.in-Some.ensures.value) c.in-Some-agent.is (StopUntold c.in-Err.error c.number.ensures c.in-Err.ensures.refused refl)
