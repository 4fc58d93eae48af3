use Rattle.std.proofs.Common.{◌≡◌, suc, false, Option, Some, None, refl, sym, ◌∙◌, subst}
use Rattle.std.specs.Prelude.{is_some}
use Rattle.ti_service.specs.declared.event.NextEvent.{NextEvent}
use Rattle.ti_service.specs.Memberships.{state_of}
use Rattle.ti_service.specs.Telling.{TellsNext}
use Rattle.ti_service.proofs.agent_calls.EnvMembershipServiceCalls.next_event_within.Goals as goal

none_of : (o : Option NextEvent) → is_some o ≡ false → o ≡ None
none_of None h = refl
none_of (Some n) h = cc

pub returns-then-is_some : goal.returns-then-is_some
returns-then-is_some g c = record { tells = record { times = c.loop.invariant.0; mid = state_of c.loop.self; nothing = c.loop.invariant.1; tells = c.next_event-next.ensures.tells } }

pub returns-in_default : goal.returns-in_default
returns-in_default g c = record { tells = record { times = c.loop.invariant.0; mid = state_of c.loop.self; nothing = c.loop.invariant.1; tells = c.next_event-next.ensures.tells } }

pub loop-preserved : goal.loop-preserved
loop-preserved g c =
    let none : c.next_event-next.result ≡ None = none_of c.next_event-next.result (sym c.is_some.ensures ∙ c.if-is_some.false) in (
      suc c.loop.invariant.0,
      (state_of c.loop.self, c.loop.invariant.1, subst (λ (o : Option NextEvent). TellsNext (state_of c.loop.self) (state_of c.next_event-next.new.self) o) none c.next_event-next.ensures.tells),
    )
