-- Whole runs of calls, and the protocol that each of them follows.
use Rattle.std.specs.Prelude.{◌≡◌, ℕ, Bool, true, false, not, ◌&&◌, ◌||◌, List, [], ◌∷◌, ◌++◌, Some, length, min, take, flat_map}
use Rattle.ti_http.specs.declared.answers.ContentType.{ContentType}
use Rattle.ti_http.specs.declared.answers.Manner.{Manner}
use Rattle.ti_http.specs.declared.connection.Action.{Action}
use Rattle.ti_http.specs.declared.connection.Action.TheVariants as action
use Rattle.ti_http.specs.declared.connection.Phase.{Phase}
use Rattle.ti_http.specs.declared.connection.Phase.TheVariants as phase
use Rattle.ti_http.specs.declared.hosts.Hosts.{Hosts}
use Rattle.ti_http.specs.declared.status.Status.{Status}
use Rattle.ti_http.specs.Answers.{answer_text}
use Rattle.ti_http.specs.Talks.{Talk, opened, room_in, fed, ended_by_peer, Goes, answered_by, written_from, ticked}

-- A call that succeeds, at a time. One that fails changes nothing.
pub data Call : Type 0 where
  Fed : List ℕ → ℕ → Call
  PeerEnded : Call
  Told : Action → ℕ → Call
  Answered : Status → ContentType → List ℕ → ℕ → Call
  Written : ℕ → ℕ → Call
  Ticked : ℕ → Call

-- what the contracts of the calls say
abbrev pub Step : Talk → Call → Talk → Type 0
Step old (Fed bytes now) new = new ≡ fed old (take (room_in old) bytes) now
Step old PeerEnded new = new ≡ ended_by_peer old
Step old (Told act now) new = Goes old now act new
Step old (Answered status type body now) new = answered_by old now status type body ≡ Some new
Step old (Written count now) new = new ≡ written_from old count now
Step old (Ticked now) new = new ≡ ticked old now

-- these calls, in this order
abbrev pub Runs : Talk → List Call → Talk → Type 0
Runs old [] new = old ≡ new
Runs old (c ∷ calls) new = (next : Talk) × Step old c next × Runs next calls new

-- No request waits, one does, or the connection was closed.
pub data State : Type 0 where
  idle waits shut : State

abbrev pub state_of : Phase → State
state_of phase.Reading = idle
state_of (phase.Waiting manner) = waits
state_of phase.Closing = idle
state_of phase.Closed = shut

abbrev pub is_idle : State → Bool
is_idle idle = true
is_idle waits = false
is_idle shut = false

abbrev pub is_waiting : State → Bool
is_waiting idle = false
is_waiting waits = true
is_waiting shut = false

abbrev pub is_shut : State → Bool
is_shut idle = false
is_shut waits = false
is_shut shut = true

abbrev pub is_same : State → State → Bool
is_same idle = is_idle
is_same waits = is_waiting
is_same shut = is_shut

-- A request is handed out only while none waits. Nothing is to be written after a close, and nothing closes while one waits.
abbrev pub may_tell : Action → State → State → Bool
may_tell (action.Ask request) old new = is_idle old && is_waiting new
may_tell action.Write old new = not (is_shut old) && is_same old new
may_tell action.Wait old new = not (is_shut old) && is_same old new
may_tell action.Close old new = not (is_waiting old) && is_shut new

-- An answer is given only to a request that waits. Time may close a connection at which none waits.
abbrev pub allows : Call → State → State → Bool
allows (Fed bytes now) old new = is_same old new
allows PeerEnded old new = is_same old new
allows (Told act now) old new = may_tell act old new
allows (Answered status type body now) old new = is_waiting old && is_idle new
allows (Written count now) old new = is_same old new
allows (Ticked now) old new = is_same old new || (is_idle old && is_shut new)

abbrev pub Follows : State → List Call → State → Type 0
Follows old [] new = old ≡ new
Follows old (c ∷ calls) new = (next : State) × (allows c old next ≡ true) × Follows next calls new

-- each run follows the protocol
abbrev pub FollowsTheProtocol : Type 0
FollowsTheProtocol = (hosts : Hosts) (start : ℕ) (calls : List Call) (end : Talk) → Runs (opened hosts start) calls end → Follows idle calls (state_of end.phase)

-- an answer that was given
pub record Reply : Type 0 where
  pub status : Status
  pub type : ContentType
  pub manner : Manner
  pub body : List ℕ

abbrev pub reply_text : Reply → List ℕ
reply_text r = answer_text r.status r.type r.manner r.body

-- the bytes that the socket took with a call
abbrev pub taken_by : Talk → Call → List ℕ
taken_by t (Fed bytes now) = []
taken_by t PeerEnded = []
taken_by t (Told act now) = []
taken_by t (Answered status type body now) = []
taken_by t (Written count now) = take (min count (length t.output)) t.output
taken_by t (Ticked now) = []

-- these calls, with all that the socket took
abbrev pub Sends : Talk → List Call → List ℕ → Talk → Type 0
Sends old [] sent new = (old ≡ new) × (sent ≡ [])
Sends old (c ∷ calls) sent new =
    (next : Talk) × (later : List ℕ) × Step old c next × (sent ≡ taken_by old c ++ later) × Sends next calls later new

-- What was sent and what is still to be sent are whole answers, as many as were given, in their order. After a close they may
-- be a front of these.
pub record AreAnswers (sent : List ℕ) (t : Talk) : Type 0 where
  pub replies : List Reply
  pub cut : List ℕ
  pub each : length replies ≡ t.answered
  pub bytes : flat_map reply_text replies ≡ sent ++ (t.output ++ cut)
  pub whole : is_shut (state_of t.phase) ≡ false → cut ≡ []

abbrev pub SendsAnswers : Type 0
SendsAnswers = (hosts : Hosts) (start : ℕ) (calls : List Call) (sent : List ℕ) (end : Talk) → Sends (opened hosts start) calls sent end → AreAnswers sent end
