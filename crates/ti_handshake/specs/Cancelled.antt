-- Calls that were cancelled.
use Rattle.std.specs.Prelude.{ℕ, ◌≡◌, ◌++◌, true, List, [], Option, Some, None, vec_capacity}
use Rattle.std.specs.Global.{Vec}
use Rattle.ti_types.specs.declared.event.Ticket.{Ticket}
use Rattle.ti_slot.specs.Tickets.{has, AreOnce}

-- the tickets, for how many there is room, and how many of the first are of calls of an environment that has left
pub record Given : Type 0 where
  pub tickets : List Ticket
  pub room : ℕ
  pub former : ℕ

abbrev pub given_in : Option (Vec Ticket) → ℕ → Given
given_in None former = record { tickets = []; room = 0; former = former }
given_in (Some v) former = record { tickets = v.items; room = vec_capacity v; former = former }

-- each call that was cancelled is out, and none is listed twice
pub record AreCancelled (cancelled posted : List Ticket) : Type 0 where
  pub once : AreOnce cancelled
  pub out : (k : Ticket) → has k cancelled ≡ true → has k posted ≡ true

-- all that are out were added, behind those that were cancelled before
pub record AddsAll (posted old new : List Ticket) : Type 0 where
  pub more : List Ticket
  pub behind : new ≡ old ++ more
  pub given : AreCancelled new posted
  pub all : (k : Ticket) → has k posted ≡ true → has k new ≡ true
