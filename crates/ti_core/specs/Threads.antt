-- What is said of a ticket.
use Rattle.std.specs.Prelude.{Bool, false}
use Rattle.ti_types.specs.declared.event.Ticket.{Ticket}
use Rattle.ti_slot.specs.Tickets.{same}
use Rattle.ti_types.specs.declared.event.Outcome.{Outcome}
use Rattle.ti_types.specs.declared.event.Outcome.TheVariants.{Posted}

-- what is true of a call's ticket, if it was posted
abbrev pub IfPosted : Outcome → (Ticket → Type 0) → Type 0
IfPosted (Posted ticket) holds = holds ticket
IfPosted _ holds = Unit {0}

-- whether an outcome is this ticket
abbrev pub is_ticket_of : Outcome → Ticket → Bool
is_ticket_of (Posted ticket) k = same ticket k
is_ticket_of _ k = false
