-- The outcomes of a whole list of events, while it is run and at its end.
use Rattle.std.specs.Prelude.{◌≡◌, Bool, true, false, List, [], ◌∷◌, ◌++◌, ℕ, map, take, drop, length, Option, Some, None}
use Rattle.std.specs.List.{list_all}
use Rattle.ti_types.specs.declared.limits.Limits.{Limits}
use Rattle.ti_types.specs.declared.event.Event.{Event}
use Rattle.ti_types.specs.declared.event.Event.TheVariants.{Ask}
use Rattle.ti_types.specs.declared.event.Ticket.{Ticket}
use Rattle.ti_types.specs.declared.event.Outcome.{Outcome}
use Rattle.ti_types.specs.declared.event.Outcome.TheVariants.{Posted}
use Rattle.ti_replay.specs.Admission.{Happening}
use Rattle.ti_replay.specs.Legal.{asked_by}
use Rattle.ti_replay.specs.Events.{history_of, given}
use Rattle.ti_replay.specs.Outcomes.{out_of, outs, outs_from, told_now, told_later, was_for_memory}
use Rattle.ti_core.specs.Threads.{IfPosted}
use Rattle.ti_replay.specs.Tickets.{reply_to}
use Rattle.ti_slot.specs.Tickets.{AreOnce, same}
use Rattle.ti_core.specs.Core.{CoreState, is_uncollected}
use Rattle.ti_core.specs.Refines.{Refines}

-- the ticket that a call is given: its number is how many calls its environment asked at the thread before it
abbrev pub IsTicketBy : Limits → List Happening → Event → Ticket → Type 0
IsTicketBy limits events (Ask e t call) k = k ≡ record { env = e; thread = t; no = asked_by e (history_of limits t events) }
IsTicketBy limits events _ k = ⊥

-- what is seen of an event when it happens: its outcome at once, or its ticket
abbrev pub IsSeen : Limits → List Happening → Happening → Option Outcome → Type 0
IsSeen limits front h (Some o) = (told_now o ≡ out_of limits (front ++ h ∷ []) front h) × IfPosted o (λ k. IsTicketBy limits front h.event k)
IsSeen limits front h None = ⊥

abbrev pub AreSeen : Limits → List Happening → List Happening → List (Option Outcome) → Type 0
AreSeen limits front [] [] = Unit {0}
AreSeen limits front [] (o ∷ os) = ⊥
AreSeen limits front (h ∷ hs) [] = ⊥
AreSeen limits front (h ∷ hs) (o ∷ os) = IsSeen limits front h o × AreSeen limits (front ++ h ∷ []) hs os

-- the tickets of the calls that were posted
abbrev pub tickets : List (Option Outcome) → List Ticket
tickets [] = []
tickets (Some (Posted k) ∷ os) = k ∷ tickets os
tickets (o ∷ os) = tickets os

-- none of their answers was taken
abbrev pub are_uncollected : CoreState → List Ticket → Bool
are_uncollected s ks = list_all (is_uncollected s) ks

-- a core that refines for these events, what was seen of them, and the posted tickets
pub record HasSeen (hs : List Happening) (os : List (Option Outcome)) (s : CoreState) : Type 0 where
  pub refines : Refines hs s
  pub seen : AreSeen s.limits [] hs os
  pub kept : are_uncollected s (tickets os) ≡ true
  pub once : AreOnce (tickets os)

-- what an outcome is at the end of all events: a posted call's is the reply to its ticket
abbrev pub IsDue : Limits → List Happening → List Happening → Happening → Option Outcome → Type 0
IsDue limits all front h (Some (Posted k)) = out_of limits all front h ≡ given (reply_to limits (history_of limits k.thread all) k)
IsDue limits all front h o = told_later o ≡ out_of limits all front h

abbrev pub AreDue : Limits → List Happening → List Happening → List Happening → List (Option Outcome) → Type 0
AreDue limits all front [] [] = Unit {0}
AreDue limits all front [] (o ∷ os) = ⊥
AreDue limits all front (h ∷ hs) [] = ⊥
AreDue limits all front (h ∷ hs) (o ∷ os) = IsDue limits all front h o × AreDue limits all (front ++ h ∷ []) hs os

-- what an outcome becomes at the end
abbrev pub IsFinished : List Happening → CoreState → Option Outcome → Option Outcome → Type 0
IsFinished events s (Some (Posted k)) o = is_uncollected s k ≡ true → told_later o ≡ given (reply_to s.limits (history_of s.limits k.thread events) k)
IsFinished events s old o = o ≡ old

-- whether it is no ticket
abbrev pub is_final : Option Outcome → Bool
is_final (Some (Posted t)) = false
is_final _ = true

abbrev pub is_posted : Option Outcome → Ticket → Bool
is_posted (Some (Posted t)) k = same t k
is_posted _ k = false

-- A run that is being answered, up to this place. The outcomes before it are what the definitions say at the end of all
-- events. Those from it on are due
pub record AtTurn (limits : Limits) (hs : List Happening) (first : List (Option Outcome)) (place : ℕ) (os : List (Option Outcome)) (s : CoreState) : Type 0 where
  pub front : List Happening
  pub rest : List Happening
  pub limits_are : s.limits ≡ limits
  pub refines : Refines hs s
  pub told : map told_later (take place os) ++ outs_from limits hs front rest ≡ outs limits hs
  pub due : AreDue limits hs front rest (drop place os)
  pub kept : are_uncollected s (tickets (drop place os)) ≡ true
  pub once : AreOnce (tickets (drop place os))
  pub marks : map was_for_memory os ≡ map was_for_memory first
  pub count : length os ≡ length first
