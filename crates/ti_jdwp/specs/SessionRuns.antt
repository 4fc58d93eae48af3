-- Whole runs of a session, and what goes over its connection.
use Rattle.std.specs.Prelude.{◌≡◌, ℕ, ◌≤◌, Bool, true, List, [], ◌∷◌, ◌++◌, length, take, min, Option, Some, Result}
use Rattle.std.specs.List.{flat_map}
use Rattle.ti_jdwp.specs.declared.actions.Action.{Action}
use Rattle.ti_jdwp.specs.declared.actions.Posted.{Posted}
use Rattle.ti_jdwp.specs.declared.error.JdwpError.{JdwpError}
use Rattle.ti_jdwp.specs.declared.event.Event.{Event}
use Rattle.ti_jdwp.specs.declared.event.Spot.{Spot}
use Rattle.ti_jdwp.specs.declared.event_text.Occurrence.{Occurrence}
use Rattle.ti_jdwp.specs.declared.packet.Head.TheVariants as head
use Rattle.ti_jdwp.specs.declared.stops.Standing.{Standing}
use Rattle.ti_jdwp.specs.declared.stops.Verdict.{Verdict}
use Rattle.ti_jdwp.specs.Answered.{is_asked, listed_in, settled_in, placed_in, located_in, PostedIn}
use Rattle.ti_jdwp.specs.Lines.{with_written, handshake}
use Rattle.ti_jdwp.specs.Notes.{Begins, Dies, Notes}
use Rattle.ti_jdwp.specs.Packets.{BeginsWith}
use Rattle.ti_jdwp.specs.Sent.{reply_packet, event_packet}
use Rattle.ti_jdwp.specs.Steps.{Goes, Fails}
use Rattle.ti_jdwp.specs.StopNotes.{Stops}
use Rattle.ti_jdwp.specs.Talks.{Talk, opened, room_in, fed, replied, closed}

-- A call. Those that fail change nothing, but for `next`.
pub data Call : Type 0 where
  Fed : List ℕ → Call
  PeerEnded : Call
  Shut : Call
  Went : Action → Call
  Failed : Call
  Replied : Result (List ℕ) ℕ → Call
  Listed : List ℕ → Call
  PostedAs : Posted → Call
  Settled : Call
  PlacedAs : Result (Unit {0}) JdwpError → Call
  LocatedAs : Option Standing → Call
  -- a thread stopped at a place
  StoppedAt : Spot → Verdict → Call
  Written : ℕ → Call
  -- something took place at the service, and was noted or lost
  Happened : Event → Occurrence → Bool → Call
  -- the runtime began with a thread, which was noted or lost
  Began : ℕ → Bool → Call
  -- the runtime ended, which was told or lost
  Died : Bool → Call

-- what the contracts of the calls say
abbrev pub Step : Talk → Call → Talk → Type 0
Step old (Fed bytes) new = (length bytes ≤ room_in old) × (new ≡ fed old bytes)
Step old PeerEnded new = new ≡ record old { ended = true }
Step old Shut new = new ≡ closed old
Step old (Went act) new = Goes old act new
Step old Failed new = Fails old new
Step old (Replied a) new = (is_asked old.phase ≡ true) × (new ≡ replied old a)
Step old (Listed threads) new = listed_in old.phase threads old ≡ Some new
Step old (PostedAs posted) new = PostedIn old.phase posted old new
Step old Settled new = settled_in old.phase old ≡ Some new
Step old (PlacedAs placed) new = placed_in old.phase placed old ≡ Some new
Step old (LocatedAs standing) new = located_in old.phase standing old ≡ Some new
Step old (StoppedAt s verdict) new = Stops s old verdict new
Step old (Written count) new = new ≡ record old { bytes = with_written old.bytes count }
Step old (Happened e o result) new = Notes e o old result new
Step old (Began thread result) new = Begins thread old result new
Step old (Died result) new = Dies old result new

-- the bytes that a call took from the socket
abbrev pub received : Call → List ℕ
received (Fed bytes) = bytes
received PeerEnded = []
received Shut = []
received (Went act) = []
received Failed = []
received (Replied a) = []
received (Listed threads) = []
received (PostedAs posted) = []
received Settled = []
received (PlacedAs r) = []
received (LocatedAs o) = []
received (StoppedAt x v) = []
received (Written count) = []
received (Happened e o result) = []
received (Began thread result) = []
received (Died result) = []

-- the bytes that the socket took with a call
abbrev pub taken : Talk → Call → List ℕ
taken t (Fed bytes) = []
taken t PeerEnded = []
taken t Shut = []
taken t (Went act) = []
taken t Failed = []
taken t (Replied a) = []
taken t (Listed threads) = []
taken t (PostedAs posted) = []
taken t Settled = []
taken t (PlacedAs r) = []
taken t (LocatedAs o) = []
taken t (StoppedAt x v) = []
taken t (Written count) = take (min count (length t.bytes.output)) t.bytes.output
taken t (Happened e o result) = []
taken t (Began thread result) = []
taken t (Died result) = []

-- these calls in this order, with all that the socket took
abbrev pub Runs : Talk → List Call → List ℕ → Talk → Type 0
Runs old [] sent new = (old ≡ new) × (sent ≡ [])
Runs old (c ∷ calls) sent new = (next : Talk) × (later : List ℕ) × Step old c next × (sent ≡ taken old c ++ later) × Runs next calls later new

-- What a session does with the bytes of its connection: it greets, replies to a request, passes over a reply, or tells an event.
pub data Deed : Type 0 where
  Greets : Deed
  Replies : ℕ → List ℕ → Result (List ℕ) ℕ → Deed
  Passes : List ℕ → Deed
  Tells : ℕ → List ℕ → Deed

-- what leaves the input with it
abbrev pub reads : Deed → List ℕ
reads Greets = handshake
reads (Replies id packet a) = packet
reads (Passes packet) = packet
reads (Tells id body) = []

-- what goes to the output with it
abbrev pub sends : Deed → List ℕ
sends Greets = handshake
sends (Replies id packet a) = reply_packet id a
sends (Passes packet) = []
sends (Tells id body) = event_packet id body

-- a whole packet of a request with this id
abbrev pub IsRequest : ℕ → List ℕ → Type 0
IsRequest id packet = (set command : ℕ) × BeginsWith packet (head.Request id set command (length packet))

-- A reply has the id of the request whose packet leaves the input with it.
abbrev pub IsDeed : Deed → Type 0
IsDeed Greets = Unit {0}
IsDeed (Replies id packet a) = IsRequest id packet
IsDeed (Passes packet) = BeginsWith packet (head.Reply (length packet))
IsDeed (Tells id body) = Unit {0}

abbrev pub AreDeeds : List Deed → Type 0
AreDeeds [] = Unit {0}
AreDeeds (d ∷ deeds) = IsDeed d × AreDeeds deeds

-- All that came is what was worked on, packet by packet, and what is still to be. All that was sent, and is still to be, came of
-- that: each request has one reply, with its id, in the order of the requests.
pub record IsAnswered (calls : List Call) (sent : List ℕ) (t : Talk) : Type 0 where
  pub deeds : List Deed
  pub are : AreDeeds deeds
  pub input : flat_map received calls ≡ flat_map reads deeds ++ t.bytes.input
  pub output : flat_map sends deeds ≡ sent ++ t.bytes.output

abbrev pub RequestsAreAnswered : Type 0
RequestsAreAnswered = (calls : List Call) (sent : List ℕ) (end : Talk) → Runs opened calls sent end → IsAnswered calls sent end
