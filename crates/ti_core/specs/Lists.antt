-- What a call at each thread of a list does: one event for each of them, in the list's order.
use Rattle.std.specs.Prelude.{◌≡◌, Bool, true, false, ◌||◌, List, [], ◌∷◌, ◌++◌}
use Rattle.ti_types.specs.declared.limits.Limits.{Limits}
use Rattle.ti_types.specs.declared.numbers.EnvNo.{EnvNo}
use Rattle.ti_types.specs.declared.numbers.ThreadNo.{ThreadNo}
use Rattle.ti_types.specs.declared.call.Call.TheVariants as call
use Rattle.ti_types.specs.declared.event.Event.{Event}
use Rattle.ti_types.specs.declared.event.Event.TheVariants as event
use Rattle.ti_types.specs.declared.event.Ticket.{Ticket}
use Rattle.ti_types.specs.declared.event.Outcome.{Outcome}
use Rattle.ti_replay.specs.Admission.{Happening}
use Rattle.ti_replay.specs.Outcomes.{out_of, told_now, happening}
use Rattle.ti_replay.specs.Refused.{is_refusal, IsUnchanged}
use Rattle.ti_core.specs.declared.lists.AtEach.{AtEach}
use Rattle.ti_core.specs.declared.lists.AtEach.TheVariants as each
use Rattle.ti_core.specs.Threads.{IfPosted, is_ticket_of}
use Rattle.ti_core.specs.Core.{CoreState, is_uncollected}
use Rattle.ti_core.specs.Refines.{Refines}
use Rattle.ti_core.specs.Runs.{IsTicketBy}

-- the event for one thread of the list
abbrev pub event_at : EnvNo → AtEach → ThreadNo → Event
event_at env each.Suspend t = event.Ask env t call.Suspend
event_at env each.Resume t = event.Ask env t call.Resume
event_at env each.Stop t = event.Stop env t
event_at env (each.Read max_count) t = event.Read env t max_count
event_at env each.Go t = event.Go env t

-- the events for these threads, with the outcomes saying at which of them memory ran out
abbrev pub each_happened : (ThreadNo → Event) → List ThreadNo → List Outcome → List Happening
each_happened event (t ∷ ts) (o ∷ os) = happening (event t) (told_now o) ∷ each_happened event ts os
each_happened event [] os = []
each_happened event (t ∷ ts) [] = []

-- the outcome of an event at once, after a prefix of events: what the definitions say, or its ticket
abbrev pub IsSaid : Limits → List Happening → Event → Outcome → Type 0
IsSaid limits front x o =
    (told_now o ≡ out_of limits (front ++ happening x (told_now o) ∷ []) front (happening x (told_now o))) × IfPosted o (λ k. IsTicketBy limits front x k)

-- one outcome for each thread, each after those before it
abbrev pub AreSaid : Limits → List Happening → (ThreadNo → Event) → List ThreadNo → List Outcome → Type 0
AreSaid limits front event [] [] = Unit {0}
AreSaid limits front event [] (o ∷ os) = ⊥
AreSaid limits front event (t ∷ ts) [] = ⊥
AreSaid limits front event (t ∷ ts) (o ∷ os) = IsSaid limits front (event t) o × AreSaid limits (front ++ happening (event t) (told_now o) ∷ []) event ts os

-- if one of them is refused when it comes, it changes nothing else
abbrev pub AreUnchanged : Limits → List Happening → (ThreadNo → Event) → List ThreadNo → List Outcome → Type 0
AreUnchanged limits front event (t ∷ ts) (o ∷ os) =
    (is_refusal (told_now o) ≡ true → IsUnchanged limits front (happening (event t) (told_now o)))
    × AreUnchanged limits (front ++ happening (event t) (told_now o) ∷ []) event ts os
AreUnchanged limits front event [] os = Unit {0}
AreUnchanged limits front event (t ∷ ts) [] = Unit {0}

-- whether one of the outcomes is this ticket
abbrev pub are_tickets_of : List Outcome → Ticket → Bool
are_tickets_of [] k = false
are_tickets_of (o ∷ os) k = is_ticket_of o k || are_tickets_of os k

-- none of their tickets was out in this core
abbrev pub AreFresh : CoreState → List Outcome → Type 0
AreFresh s [] = Unit {0}
AreFresh s (o ∷ os) = IfPosted o (λ k. is_uncollected s k ≡ false) × AreFresh s os

-- from one core to another by an event for each of these threads, each after those before it
pub record HappenedAtEach (event : ThreadNo → Event) (threads : List ThreadNo) (s new : CoreState) (os : List Outcome) : Type 0 where
  pub limits : new.limits ≡ s.limits
  pub refines : (events : List Happening) → Refines events s → Refines (events ++ each_happened event threads os) new
  pub outcomes : (events : List Happening) → Refines events s → AreSaid s.limits events event threads os
  pub refused : (events : List Happening) → Refines events s → AreUnchanged s.limits events event threads os
  pub fresh : AreFresh s os
  pub kept : (k : Ticket) → is_uncollected new k ≡ (is_uncollected s k || are_tickets_of os k)
