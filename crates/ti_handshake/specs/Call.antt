-- What a seat knows after a call through a cell.
use Rattle.std.specs.Prelude.{◌≡◌, ◌+◌, ◌-◌, ◌<◌, true, false, List, [], ◌∷◌, ◌++◌, length, take, drop, Some, None}
use Rattle.ti_types.specs.Answer.{said}
use Rattle.ti_types.specs.declared.answer.Answer.{Answer}
use Rattle.ti_types.specs.declared.call.Call.{Call}
use Rattle.ti_types.specs.declared.entry.Entry.{Entry}
use Rattle.ti_types.specs.declared.entry.Entry.TheVariants.{Asked}
use Rattle.ti_types.specs.declared.event.Ticket.{Ticket}
use Rattle.ti_types.specs.declared.numbers.EnvNo.{EnvNo}
use Rattle.ti_replay.specs.Legal.{is_legal, asked_by}
use Rattle.ti_replay.specs.Makers.{made_by, StartsWith}
use Rattle.ti_replay.specs.Replies.{reply}
use Rattle.ti_slot.specs.Tickets.{has}
use Rattle.ti_slot.specs.declared.asked.Asked.{Asked as AskedOf}
use Rattle.ti_slot.specs.declared.asked.Asked.TheVariants.{Answered, Waiting}
use Rattle.ti_cell.specs.declared.look.Look.{Look}
use Rattle.ti_cell.specs.declared.view.View.{View}

-- The seat is the same, and does not hold the cell. Its earlier looks stay, and others may follow them. What it has seen is
-- legal, and begins with what it had seen before. Its entries with the seat's number are exactly those made from this seat
pub record GoesOn (old new : View) : Type 0 where
  pub number : new.number ≡ old.number
  pub subject : new.subject ≡ old.subject
  pub made : new.made ≡ old.made
  pub back : new.back ≡ old.back
  pub gone : new.gone ≡ old.gone
  pub rests : (new.holds ≡ false) × (new.found ≡ [])
  pub looked : (more : List Look) × (new.looked ≡ old.looked ++ more)
  pub legal : is_legal old.subject.limits new.seen ≡ true
  pub begins : StartsWith new.seen old.seen
  pub whole : new.mine ≡ made_by old.number new.seen

-- the entries that a call added from the seat
abbrev pub added : View → View → List Entry
added old new = drop (length old.mine) new.mine

-- the history that a call found: what was seen after the call, without what the call added
abbrev pub found : View → View → List Entry
found old new = take (length new.seen - length (added old new)) new.seen

-- Holds that added nothing, if any, with looks between them. Then one hold that added these entries. What was seen is what
-- that hold found, with what it added. The seat's tickets are these
pub record WaitsWith (old new : View) (more : List Entry) (tickets : List Ticket) : Type 0 where
  pub goes : GoesOn old new
  pub mine : new.mine ≡ old.mine ++ more
  pub posted : new.posted ≡ tickets
  pub last : new.seen ≡ found old new ++ more
  pub here : StartsWith (found old new) old.seen

-- One hold: nothing was looked at, and the cell was taken once
pub record HoldsWith (old new : View) (more : List Entry) (tickets : List Ticket) : Type 0 where
  pub waits : WaitsWith old new more tickets
  pub looked : new.looked ≡ old.looked
  pub once : new.taken ≡ old.taken + 1

-- the same for a call that leaves the seat's tickets as they were
abbrev pub Waits : View → View → List Entry → Type 0
Waits old new more = WaitsWith old new more old.posted

abbrev pub Holds : View → View → List Entry → Type 0
Holds old new more = HoldsWith old new more old.posted

-- the view with further looks
abbrev pub with_looks : View → List Look → View
with_looks v looks = record v { looked = v.looked ++ looks }

-- only looks, and the last one showed entries that had not been seen
abbrev pub SawNews : View → View → Type 0
SawNews old new = (looks : List Look) × (last : Look) × (new ≡ with_looks old (looks ++ last ∷ [])) × (length old.seen < last.count)

-- what a call gives at once: the reply, or a ticket if there is no reply yet. The seat did not have that ticket before
abbrev pub IsTold : View → View → EnvNo → Call → AskedOf → Type 0
IsTold old new env call (Answered a) = reply old.subject.limits new.seen (length (found old new)) ≡ Some (said a)
IsTold old new env call (Waiting ticket) =
    (reply old.subject.limits new.seen (length (found old new)) ≡ None)
    × (ticket ≡ record { env = env; thread = old.subject.thread; no = asked_by env old.mine })
    × (has ticket old.posted ≡ false)

-- the ticket of a call, if it waits
abbrev pub ticket_told : AskedOf → List Ticket
ticket_told (Answered a) = []
ticket_told (Waiting ticket) = ticket ∷ []

-- the call that a seat asks next
abbrev pub next_call : View → EnvNo → Call → Entry
next_call v env call = Asked env (asked_by env v.mine) call

-- the call is in the history, after what was seen before, and the answer is the reply at its place
pub record IsAnswered (old new : View) (call : Entry) (answer : Answer) : Type 0 where
  pub front : List Entry
  pub rest : List Entry
  pub stands : new.seen ≡ front ++ call ∷ rest
  pub behind : StartsWith front old.seen
  pub replied : reply old.subject.limits new.seen (length front) ≡ Some answer

-- its ticket, if it waits
abbrev pub next_ticket : View → EnvNo → Ticket
next_ticket v env = record { env = env; thread = v.subject.thread; no = asked_by env v.mine }
