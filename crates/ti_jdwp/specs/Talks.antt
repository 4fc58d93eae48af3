-- A session as contracts see it, and what each call makes of it.
use Rattle.std.specs.Prelude.{◌<◌, ℕ, ◌-◌, ◌≤◌, min, Bool, true, false, not, ◌&&◌, List, [], length, take, drop, Option, None, Result, nat_lt, bytes_eq, ◌==◌, if◌then◌else◌}
use Rattle.ti_jdwp.specs.declared.actions.Action.{Action}
use Rattle.ti_jdwp.specs.declared.actions.Action.TheVariants as action
use Rattle.ti_jdwp.specs.declared.actions.Phase.{Phase}
use Rattle.ti_jdwp.specs.declared.actions.Phase.TheVariants as phase
use Rattle.ti_jdwp.specs.declared.actions.Purpose.{Purpose}
use Rattle.ti_jdwp.specs.declared.actions.Purpose.TheVariants as purpose
use Rattle.ti_jdwp.specs.declared.notice.Notice.{Notice}
use Rattle.ti_jdwp.specs.declared.packet.Head.{Head}
use Rattle.ti_jdwp.specs.declared.packet.Head.TheVariants as head
use Rattle.ti_jdwp.specs.declared.front.First.{First}
use Rattle.ti_jdwp.specs.declared.front.Front.{Front}
use Rattle.ti_jdwp.specs.declared.front.Front.TheVariants as front
use Rattle.ti_jdwp.specs.Holds.{Holds}
use Rattle.ti_jdwp.specs.InForce.{AllAsked, no_requests}
use Rattle.ti_jdwp.specs.Lines.{Bytes, no_bytes, with_input, without_input, with_reply, with_output, handshake}
use Rattle.ti_jdwp.specs.Packets.{BeginsWith}
use Rattle.ti_jdwp.specs.Queues.{Queue, no_events}

pub record Talk : Type 0 where
  pub bytes : Bytes
  pub phase : Phase
  -- the request that is worked on, or was last
  pub first : First
  -- the socket gives no more
  pub ended : Bool
  -- the socket is gone
  pub gone : Bool
  pub holds : Holds
  pub requests : AllAsked
  pub queue : Queue
  -- threads that are yet to be suspended or resumed
  pub work : List ℕ
  -- the event for which threads are suspended
  pub notice : Option Notice
  -- how many events were told, modulo 2^32
  pub told : ℕ
  -- there was no memory to count a suspension
  pub short : Bool

abbrev pub no_request : First
no_request = record { id = 0; set = 0; command = 0; length = 0 }

abbrev pub opened : Talk
opened = record { bytes = no_bytes; phase = phase.Greeting; first = no_request; ended = false; gone = false; holds = []; requests = no_requests; queue = no_events; work = []; notice = None; told = 0; short = false }

-- a packet that did not come whole yet
abbrev pub IsPart : Head → List ℕ → Type 0
IsPart head.NeedsMore input = Unit {0}
IsPart head.TooShort input = ⊥
IsPart head.TooLong input = ⊥
IsPart (head.Request id set command n) input = length input < n
IsPart (head.Reply n) input = length input < n

-- a length that no packet has
abbrev pub IsNoPacket : Head → Type 0
IsNoPacket head.NeedsMore = ⊥
IsNoPacket head.TooShort = Unit {0}
IsNoPacket head.TooLong = Unit {0}
IsNoPacket (head.Request id set command n) = ⊥
IsNoPacket (head.Reply n) = ⊥

-- what stands first in an input
abbrev pub IsFront : List ℕ → Front → Type 0
IsFront input front.More = (h : Head) × BeginsWith input h × IsPart h input
IsFront input front.Broken = (h : Head) × BeginsWith input h × IsNoPacket h
IsFront input (front.Reply n) = BeginsWith input (head.Reply n) × (n ≤ length input)
IsFront input (front.Request f) = BeginsWith input (head.Request f.id f.set f.command f.length) × (f.length ≤ length input) × (11 ≤ f.length)

-- the data of a packet
abbrev pub data_of : First → List ℕ → List ℕ
data_of f input = take (f.length - 11) (drop 11 input)

-- after an end nothing is read
abbrev pub is_open : Phase → Bool
is_open phase.Greeting = true
is_open phase.Ready = true
is_open phase.Asking = true
is_open (phase.Listing p) = true
is_open (phase.Stopping p) = true
is_open (phase.Suspending p t) = true
is_open (phase.Undoing p t) = true
is_open (phase.Settling p) = true
is_open (phase.Finishing p) = true
is_open phase.Refusing = true
is_open (phase.Placing w) = true
is_open (phase.Locating w) = true
is_open (phase.Putting w k) = true
is_open (phase.Denied d) = true
is_open (phase.Numbered n) = true
is_open phase.Resuming = true
is_open phase.Ending = false
is_open phase.Closed = false

-- how many bytes of input are taken
abbrev pub room_in : Talk → ℕ
room_in t = if ((is_open t.phase && not t.ended) && not t.gone) && (length t.bytes.output == 0) then 65536 - length t.bytes.input else 0

abbrev pub fed : Talk → List ℕ → Talk
fed t more = record t { bytes = with_input t.bytes more }

-- the request that is worked on is replied to, and leaves the input
abbrev pub replied : Talk → Result (List ℕ) ℕ → Talk
replied t a = record t { bytes = with_reply t.bytes t.first.length t.first.id a; phase = phase.Ready }

-- nothing more is read
abbrev pub stopped : Talk → Talk
stopped t = record t { phase = phase.Ending }

-- Nothing whole came. Where the socket gives no more, the session ends.
abbrev pub starved : Talk → Action × Talk
starved t = if t.ended then (action.Again, stopped t) else (action.Wait, t)

abbrev pub greeted : Talk → Talk
greeted t = record t { bytes = with_output (without_input t.bytes 14) handshake; phase = phase.Ready }

-- a handshake that goes wrong ends the session at once
abbrev pub greets : Talk → Action × Talk
greets t =
    if not (bytes_eq (take (min (length t.bytes.input) 14) t.bytes.input) (take (min (length t.bytes.input) 14) handshake)) then (action.Again, stopped t)
    else (if nat_lt (min (length t.bytes.input) 14) 14 then starved t
    else (action.Write, greeted t))

abbrev pub after : Purpose → Phase
after purpose.One = phase.Stopping purpose.One
after purpose.All = phase.Stopping purpose.All
after purpose.Event = phase.Stopping purpose.Event
after purpose.End = phase.Ending

-- where a session is that was closed
abbrev pub closing : Phase → Phase
closing phase.Greeting = phase.Ending
closing phase.Ready = phase.Ending
closing phase.Asking = phase.Ending
closing (phase.Listing p) = phase.Ending
closing (phase.Stopping p) = phase.Ending
closing (phase.Suspending p t) = phase.Suspending purpose.End t
closing (phase.Undoing p t) = phase.Undoing purpose.End t
closing (phase.Settling p) = phase.Ending
closing (phase.Finishing p) = phase.Ending
closing phase.Refusing = phase.Ending
closing (phase.Placing w) = phase.Ending
closing (phase.Locating w) = phase.Ending
closing (phase.Putting w k) = phase.Ending
closing (phase.Denied d) = phase.Ending
closing (phase.Numbered n) = phase.Ending
closing phase.Resuming = phase.Ending
closing phase.Ending = phase.Ending
closing phase.Closed = phase.Closed

abbrev pub closed : Talk → Talk
closed t = record t { phase = closing t.phase; gone = true }
