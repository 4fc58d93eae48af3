-- What an environment asked of stops, in the list of who came and went.
use Rattle.std.specs.Prelude.{◌≡◌, ◌==◌, Bool, false, List, Some, None}
use Rattle.std.specs.List.{filter}
use Rattle.ti_types.specs.declared.numbers.EnvNo.{EnvNo}
use Rattle.ti_roster.specs.declared.coming.Coming.{Coming}
use Rattle.ti_roster.specs.declared.coming.Coming.TheVariants.{Came, Started, Ended, Left, Attached, Met, GaveBack, Disposed, Stop}
use Rattle.ti_roster.specs.Rule.{Claims}

-- whether this is a call about stops by an environment
abbrev pub is_call_of : EnvNo → Coming → Bool
is_call_of e (Stop (Some f) call) = f.0 == e.0
is_call_of e (Stop None call) = false
is_call_of e (Came n) = false
is_call_of e (Started t) = false
is_call_of e (Ended t) = false
is_call_of e (Left t) = false
is_call_of e (Attached f) = false
is_call_of e (Met f m) = false
is_call_of e (GaveBack f t) = false
is_call_of e (Disposed f) = false

abbrev pub calls_of : EnvNo → List Coming → List Coming
calls_of e log = filter (is_call_of e) log

-- The list that is found by an environment's seat has the calls of that environment that the seat has seen, and no other: what it
-- asked of stops was asked from this seat
abbrev pub OwnCallsAreSeen : Type 0
OwnCallsAreSeen = (e : EnvNo) (log seen : List Coming) → Claims log (Some e) seen → calls_of e log ≡ calls_of e seen
