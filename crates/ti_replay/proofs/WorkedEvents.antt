-- What worked lists of events are written with.
use Rattle.std.specs.Prelude.{ℕ, false, List, Option, Some, map}
use Rattle.std.proofs.Common.{true, lit≤}
use Rattle.ti_types.specs.declared.limits.Limits.{Limits}
use Rattle.ti_types.specs.declared.numbers.EnvNo.{EnvNo}
use Rattle.ti_types.specs.declared.numbers.ThreadNo.{ThreadNo}
use Rattle.ti_types.specs.declared.numbers.MethodNo.{MethodNo}
use Rattle.ti_types.specs.declared.caps.Caps.{Caps}
use Rattle.ti_types.specs.declared.place.Frame.{Frame}
use Rattle.ti_types.specs.declared.place.Place.TheVariants as place
use Rattle.ti_types.specs.declared.event.Event.{Event}
use Rattle.ti_types.specs.declared.event.Outcome.{Outcome}
use Rattle.ti_types.specs.declared.event.Outcome.TheVariants.{Done, Clear, Went, Held, Refused, Gave}
use Rattle.ti_types.specs.declared.answer.Answer.{Answer}
use Rattle.ti_types.specs.declared.answer.Answer.TheVariants as answer
use Rattle.ti_types.specs.declared.error.TiError.{TiError}
use Rattle.ti_types.specs.Frames.{bare_trace}
use Rattle.ti_replay.specs.Outcomes.{outs}

-- two threads, one more that is not there, and two environments
abbrev pub t : ThreadNo
t = record { 0 = 0 }

abbrev pub u : ThreadNo
u = record { 0 = 1 }

abbrev pub ninth : ThreadNo
ninth = record { 0 = 9 }

abbrev pub e : EnvNo
e = record { 0 = 0 }

abbrev pub f : EnvNo
f = record { 0 = 1 }

-- methods
abbrev pub a : MethodNo
a = record { 0 = 0 }

abbrev pub b : MethodNo
b = record { 0 = 1 }

abbrev pub c : MethodNo
c = record { 0 = 2 }

abbrev pub n : MethodNo
n = record { 0 = 3 }

-- limits: the usual ones, small budgets, and the least
abbrev pub small : Limits
small = record { threads = 2; envs = 2; depth = 4; own = 32; calls = 8; window = 8; kept = true; in_range = ((lit≤ tt, lit≤ tt), (lit≤ tt, lit≤ tt), (lit≤ tt, lit≤ tt), (lit≤ tt, lit≤ tt), (lit≤ tt, lit≤ tt), (lit≤ tt, lit≤ tt)) }

abbrev pub tiny : Limits
tiny = record { threads = 2; envs = 2; depth = 2; own = 4; calls = 2; window = 2; kept = true; in_range = ((lit≤ tt, lit≤ tt), (lit≤ tt, lit≤ tt), (lit≤ tt, lit≤ tt), (lit≤ tt, lit≤ tt), (lit≤ tt, lit≤ tt), (lit≤ tt, lit≤ tt)) }

abbrev pub least : Limits
least = record { threads = 2; envs = 2; depth = 1; own = 2; calls = 1; window = 1; kept = true; in_range = ((lit≤ tt, lit≤ tt), (lit≤ tt, lit≤ tt), (lit≤ tt, lit≤ tt), (lit≤ tt, lit≤ tt), (lit≤ tt, lit≤ tt), (lit≤ tt, lit≤ tt)) }

abbrev pub set_of : ℕ → Caps
set_of bits = record { bits = bits }

abbrev pub java : MethodNo → ℕ → Frame
java method position = record { method = method; place = place.Java position }

abbrev pub native_of : MethodNo → Frame
native_of method = record { method = method; place = place.Native }

-- what each event comes to, with memory at hand
abbrev pub run : Limits → List Event → List (Option Outcome)
run limits events = outs limits (map (λ x. record { event = x; wanting = false }) events)

-- an own event is done, or is refused
abbrev pub ok : Option Outcome
ok = Some Done

abbrev pub refused : TiError → Option Outcome
refused error = Some (Refused error)

abbrev pub clear : Option Outcome
clear = Some Clear

abbrev pub went : Option Outcome
went = Some Went

abbrev pub held : Option Outcome
held = Some Held

-- an agent's call is answered
abbrev pub gave : Answer → Option Outcome
gave a = Some (Gave a)

abbrev pub done : Option Outcome
done = gave answer.Done

abbrev pub error : TiError → Option Outcome
error e = gave (answer.Refused e)

abbrev pub trace : List Frame → Option Outcome
trace frames = gave (answer.Trace (bare_trace frames))

abbrev pub stack : ℕ → List Frame → Option Outcome
stack state frames = gave (answer.Stack state (bare_trace frames))
