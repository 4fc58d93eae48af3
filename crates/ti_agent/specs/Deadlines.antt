-- Calls with a deadline, and calls that are cancelled.
use Rattle.std.specs.Prelude.{ℕ, zero, suc, ◌≡◌, ◌<◌, ◌≤◌, ◌&&◌, Bool, true, false, if◌then◌else◌, [], ◌∷◌, ◌++◌, length, Option, Some, None, slice_get, slice_set}
use Rattle.ti_types.specs.declared.answer.Answer.{Answer}
use Rattle.ti_types.specs.declared.answer.Answer.TheVariants as answer
use Rattle.ti_types.specs.declared.call.Call.{Call}
use Rattle.ti_types.specs.declared.error.TiError.{TiError}
use Rattle.ti_types.specs.declared.error.TiError.TheVariants.{Full}
use Rattle.ti_types.specs.declared.event.Ticket.{Ticket}
use Rattle.ti_types.specs.declared.numbers.ThreadNo.{ThreadNo}
use Rattle.ti_env.specs.Env.{with_spent}
use Rattle.ti_handshake.specs.Call.{GoesOn, Holds, next_call}
use Rattle.ti_handshake.specs.Desk.{DeskState, Discards, CancelsLate, TellsDiscarded, is_out}
use Rattle.ti_replay.specs.Settling.{waits}
use Rattle.ti_agent.specs.Env.{Environment, place_in, place_of, thread_refusal, is_full}
use Rattle.ti_agent.specs.Asks.{Went, is_for_memory, is_timed_out}
use Rattle.ti_agent.specs.Quiesced.{FirstWaitsAt}

-- the desk at the ticket's thread cancelled the call by one hold, if the ticket was out there. Nothing else changed
pub record Cancels (old new : Environment) (ticket : Ticket) : Type 0 where
  pub before : DeskState
  pub after : DeskState
  pub there : slice_get old.desks (place_in old.desks ticket.thread) ≡ Some before
  pub about : before.view.subject.thread ≡ ticket.thread
  pub cell : after.cell ≡ before.cell
  pub env : after.env ≡ before.env
  pub hold : Holds before.view after.view []
  pub cancelled : after.cancelled ≡ (if is_out before ticket then before.cancelled ++ ticket ∷ [] else before.cancelled)
  pub former : after.former ≡ before.former
  pub new_is : new ≡ record { env = old.env; state = old.state; desks = slice_set old.desks (place_in old.desks ticket.thread) after }

-- the desk at a thread discarded the answer to the call that was cancelled first there, if the answer was there. Nothing
-- else changed
pub record DiscardsAt (old new : Environment) (thread : ThreadNo) (was_there : Bool) : Type 0 where
  pub before : DeskState
  pub after : DeskState
  pub there : slice_get old.desks (place_in old.desks thread) ≡ Some before
  pub about : before.view.subject.thread ≡ thread
  pub discards : Discards before after was_there
  pub new_is : new ≡ record { env = old.env; state = old.state; desks = slice_set old.desks (place_in old.desks thread) after }

-- So many looks at a thread for the answer to the call that was cancelled first, one after another, each where this held. Nothing
-- else changed
abbrev pub LooksTimes : (Environment → Type 0) → ℕ → Environment → Environment → ThreadNo → Type 0
LooksTimes Held zero old new thread = new ≡ old
LooksTimes Held (suc n) old new thread = (mid : Environment) × LooksTimes Held n old mid thread × Held mid × ((was_there : Bool) × DiscardsAt mid new thread was_there)

-- answers to calls that were cancelled at a thread were discarded, as far as they were there
abbrev pub DiscardsEach : Environment → Environment → ThreadNo → Type 0
DiscardsEach old new thread = (n : ℕ) × LooksTimes (λ _. Unit {0}) n old new thread

-- how many of the calls that are out at a thread, and were cancelled first, are of an environment that has left
abbrev pub former_of : Option DeskState → ℕ
former_of (Some p) = p.former
former_of None = 0

abbrev pub former_at : Environment → ThreadNo → ℕ
former_at s thread = former_of (slice_get s.desks (place_in s.desks thread))

-- answers to calls of an environment that has left were discarded, as far as they were there
abbrev pub DropsAt : Environment → Environment → ThreadNo → Type 0
DropsAt old new thread = (n : ℕ) × LooksTimes (λ s. 0 < former_at s thread) n old new thread

-- Answers to calls of an environment that has left were discarded. If none of these is out any more, the answer to the first call that
-- this environment cancelled was looked for. Otherwise one is still out, nothing is told, and the first has no answer
pub data DiscardsOwn (old new : Environment) (thread : ThreadNo) (told : Bool) : Type 0 where
  Looked : (mid : Environment) → DropsAt old mid thread → former_at mid thread ≡ 0 → (place_in mid.desks thread < length mid.desks → DiscardsAt mid new thread told) → (length mid.desks ≤ place_in mid.desks thread → (new ≡ mid) × (told ≡ false)) → DiscardsOwn old new thread told
  Waits : DropsAt old new thread → 0 < former_at new thread → FirstWaitsAt new thread → told ≡ false → DiscardsOwn old new thread told

-- what is told of an answer that the desk at a thread discarded
pub record TellsDiscardedAt (old new : Environment) (thread : ThreadNo) (ticket : Ticket) (answer : Answer) : Type 0 where
  pub before : DeskState
  pub after : DeskState
  pub there : slice_get old.desks (place_in old.desks thread) ≡ Some before
  pub there_then : slice_get new.desks (place_in old.desks thread) ≡ Some after
  pub tells : TellsDiscarded before after ticket answer

-- what is told of the answer to a call that this environment cancelled: no call of an environment that has left was out then
pub record TellsOwn (old new : Environment) (thread : ThreadNo) (ticket : Ticket) (answer : Answer) : Type 0 where
  pub mid : Environment
  pub drops : DropsAt old mid thread
  pub none : former_at mid thread ≡ 0
  pub tells : TellsDiscardedAt mid new thread ticket answer

-- one call is spent at the thread, and its desk there cancelled the call when the time was over. Nothing else changed
pub record CancelsLateAt (old new : Environment) (thread : ThreadNo) (c : Call) : Type 0 where
  pub before : DeskState
  pub after : DeskState
  pub there : slice_get old.desks (place_in old.desks thread) ≡ Some before
  pub about : before.view.subject.thread ≡ thread
  pub goes : GoesOn before.view after.view
  pub mine : after.view.mine ≡ before.view.mine ++ next_call before.view before.env c ∷ []
  pub cancels_late : CancelsLate before after c
  pub new_is : new ≡ record { env = old.env; state = with_spent old.state (place_of old.desks thread); desks = slice_set old.desks (place_in old.desks thread) after }

-- the result of an admitted call with a deadline for which there is room: 110 if there is no memory for it, and then nothing is
-- asked; 214 when the time is over; otherwise what its desk answers. No thread answers 110 or 214
abbrev pub ComesAs : (for_memory timed_out : Bool) → Environment → Environment → ThreadNo → Call → Answer → Type 0
ComesAs true timed_out old new thread c a = new ≡ old
ComesAs false true old new thread c a = CancelsLateAt old new thread c
ComesAs false false old new thread c a = Went old new thread c a

abbrev pub ComesTo : Environment → Environment → ThreadNo → Call → Answer → Type 0
ComesTo old new thread c a = ComesAs (is_for_memory a) (is_timed_out a) old new thread c a

abbrev pub ComesWith : (full : Bool) → Environment → Environment → ThreadNo → Call → Answer → Type 0
ComesWith true old new thread c a = (new ≡ old) × (a ≡ answer.Refused Full)
ComesWith false old new thread c a = ComesTo old new thread c a

-- first the answer to a call that was cancelled there is discarded, if it is there. At a full window the call is refused then
pub record Comes (old new : Environment) (thread : ThreadNo) (c : Call) (a : Answer) : Type 0 where
  pub was_there : Bool
  pub mid : Environment
  pub discards : DiscardsAt old mid thread was_there
  pub comes : ComesWith (waits c && is_full mid thread) mid new thread c a

abbrev pub IsCalledWithinBy : Option TiError → Environment → Environment → ThreadNo → Call → Answer → Type 0
IsCalledWithinBy (Some e) old new thread c a = (new ≡ old) × (a ≡ answer.Refused e)
IsCalledWithinBy None old new thread c a = Comes old new thread c a

-- a call with a deadline: refused from what the environment keeps, and then nothing changed; or the result as above
abbrev pub IsCalledWithin : Environment → Environment → ThreadNo → Call → Answer → Type 0
IsCalledWithin old new thread c a = IsCalledWithinBy (thread_refusal old thread c) old new thread c a
