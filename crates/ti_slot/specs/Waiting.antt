-- Calls that wait, and the answers that they get.
use Rattle.std.specs.Prelude.{ℕ, ◌≡◌, ◌≤◌, List, [], ◌∷◌, map, min}
use Rattle.ti_types.specs.declared.answer.Answer.{Answer}
use Rattle.ti_types.specs.declared.limits.Limits.{Limits}
use Rattle.ti_types.specs.declared.event.Ticket.{Ticket}
use Rattle.ti_types.specs.declared.call.Call.{Call}
use Rattle.ti_types.specs.declared.call.Call.TheVariants.{Trace}
use Rattle.ti_types.specs.declared.entry.Entry.{Entry}
use Rattle.ti_types.specs.declared.entry.Entry.TheVariants.{Asked}
use Rattle.ti_types.specs.declared.view.ThreadView.{ThreadView}
use Rattle.ti_types.specs.Frames as buffer
use Rattle.ti_types.specs.Answer.{said}
use Rattle.ti_ops.specs.declared.pending.Pending.{Pending}
use Rattle.ti_ops.specs.declared.status.CallStatus.{CallStatus}
use Rattle.ti_ops.specs.declared.status.CallStatus.TheVariants as status
use Rattle.ti_ops.specs.Statuses.{with_status}
use Rattle.ti_replay.specs.Answers.{answer_of, or_zero}
use Rattle.ti_replay.specs.View.{called}

-- the entry of a call that waits
abbrev pub entry_of : Pending → Entry
entry_of p = Asked p.ticket.env p.ticket.no p.call

abbrev pub entries_of : List Pending → List Entry
entries_of waiting = map entry_of waiting

-- an empty buffer with room for the frames that are asked for, at most as many as the depth
abbrev pub HasRoomFor : Limits → ℕ → buffer.Trace → Type 0
HasRoomFor limits most b = (b.frames ≡ []) × (min most limits.depth ≤ b.room)

abbrev pub IsBufferOf : Limits → Call → buffer.Trace → Type 0
IsBufferOf limits (Trace start max_count) b = HasRoomFor limits (or_zero max_count) b
IsBufferOf limits _ b = Unit {0}

abbrev pub AreReady : Limits → List Pending → Type 0
AreReady limits [] = Unit {0}
AreReady limits (p ∷ waiting) = IsBufferOf limits p.call p.buf × AreReady limits waiting

-- an answer to a ticket, without the room of its buffer
pub record Saying : Type 0 where
  pub ticket : Ticket
  pub answer : Answer

-- the answers of calls that take place one after another
abbrev pub answers_of : ThreadView → List Pending → List Saying
answers_of v [] = []
answers_of v (p ∷ waiting) =
    record { ticket = p.ticket; answer = answer_of v p.ticket.env p.call } ∷ answers_of (called v p.ticket.env p.call) waiting

abbrev pub calls_of : List Pending → List Call
calls_of waiting = map (λ p. p.call) waiting

-- a status whose answer is without the room of its buffer
abbrev pub said_status : CallStatus → CallStatus
said_status status.Waiting = status.Waiting
said_status (status.Answered a) = status.Answered (said a)
said_status status.Gone = status.Gone

abbrev pub said_in : List (List CallStatus) → List (List CallStatus)
said_in statuses = map (map said_status) statuses

-- the statuses after answers to tickets
abbrev pub delivered : List Saying → List (List CallStatus) → List (List CallStatus)
delivered [] statuses = statuses
delivered (s ∷ sayings) statuses = delivered sayings (with_status s.ticket (status.Answered s.answer) statuses)
