use Rattle.std.proofs.Common.{Option, refl, sym, subst}
use Rattle.ti_service.specs.declared.event.NextEvent.{NextEvent}
use Rattle.ti_service.specs.Memberships.{state_of}
use Rattle.ti_service.specs.Telling.{TellsNext}
use Rattle.ti_capi.specs.Calls.{EventTold, NoEvent}
use Rattle.ti_capi.proofs.Calling.{called}
use Rattle.ti_capi.proofs.env_events.cq_next_event.Goals as goal

pub returns-in-Ok-Some : goal.returns-in-Ok-Some
returns-in-Ok-Some c =
    let told = subst (λ (o : Option NextEvent). TellsNext (state_of c.in-Some-agent.agent) (state_of c.next_event_now.new.self) o) c.in-Ok-Some.field-0-is c.in-Ok-Some.ensures.tells in
    called _ _ _ _ _ _ _ (sym c.in-Some.ensures.value) c.in-Some-agent.is (EventTold c.in-Ok-Some.next refl told c.event_out.ensures)

pub returns-in-Ok-None : goal.returns-in-Ok-None
returns-in-Ok-None c =
    let told = subst (λ (o : Option NextEvent). TellsNext (state_of c.in-Some-agent.agent) (state_of c.next_event_now.new.self) o) c.in-Ok-None.field-0-is c.in-Ok-None.ensures.tells in
    called _ _ _ _ _ _ _ (sym c.in-Some.ensures.value) c.in-Some-agent.is (NoEvent refl told refl)
