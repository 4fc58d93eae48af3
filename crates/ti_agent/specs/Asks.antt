-- The result of one call of an environment.
use Rattle.std.specs.Prelude.{ℕ, ◌≡◌, Bool, true, false, ◌&&◌, not, [], ◌∷◌, ◌++◌, Option, Some, None, slice_get, slice_set, Result, Ok, Err}
use Rattle.ti_types.specs.Frames as buffer
use Rattle.ti_types.specs.Frames.{bare_trace}
use Rattle.ti_types.specs.declared.answer.Answer.{Answer}
use Rattle.ti_types.specs.declared.answer.Answer.TheVariants as answer
use Rattle.ti_types.specs.declared.call.Call.{Call}
use Rattle.ti_types.specs.declared.call.Call.TheVariants as call
use Rattle.ti_types.specs.declared.error.TiError.{TiError}
use Rattle.ti_types.specs.declared.error.TiError.TheVariants.{OutOfMemory, TimedOut}
use Rattle.ti_types.specs.declared.numbers.ThreadNo.{ThreadNo}
use Rattle.ti_types.specs.declared.place.Frame.{Frame}
use Rattle.ti_types.specs.Refusing.{or_else, unless}
use Rattle.ti_env.specs.Env.{with_spent}
use Rattle.ti_replay.specs.Admission.{takes_buffer}
use Rattle.ti_handshake.specs.Call.{GoesOn, IsAnswered, next_call}
use Rattle.ti_handshake.specs.Desk.{DeskState, IsSame}
use Rattle.ti_agent.specs.Env.{Environment, place_in, place_of, thread_refusal}

-- a desk made one call, and this is the reply
pub record Asks (old new : DeskState) (c : Call) (a : Answer) : Type 0 where
  pub same : IsSame old new
  pub goes : GoesOn old.view new.view
  pub mine : new.view.mine ≡ old.view.mine ++ next_call old.view old.env c ∷ []
  pub posted : new.view.posted ≡ old.view.posted
  pub answer : IsAnswered old.view new.view (next_call old.view old.env c) a

-- one call is spent at the thread, and its desk there made the call. Nothing else changed
pub record Went (old new : Environment) (thread : ThreadNo) (c : Call) (a : Answer) : Type 0 where
  pub before : DeskState
  pub after : DeskState
  pub there : slice_get old.desks (place_in old.desks thread) ≡ Some before
  pub about : before.view.subject.thread ≡ thread
  pub asks : Asks before after c a
  pub new_is : new ≡ record { env = old.env; state = with_spent old.state (place_of old.desks thread); desks = slice_set old.desks (place_in old.desks thread) after }

-- whether an answer says that there was no memory
abbrev pub is_for_memory : Answer → Bool
is_for_memory (answer.Refused OutOfMemory) = true
is_for_memory _ = false

-- whether an answer says that a time was over
abbrev pub is_timed_out : Answer → Bool
is_timed_out (answer.Refused TimedOut) = true
is_timed_out _ = false

-- why a call does not reach its thread: 99, 10, 103, 209, or 110 if it takes memory and there is none. No thread answers 110
abbrev pub refusal_of : Environment → ThreadNo → Call → Answer → Option TiError
refusal_of s thread c a = or_else (thread_refusal s thread c) (unless (not (takes_buffer c && is_for_memory a)) OutOfMemory)

abbrev pub IsCalledBy : Option TiError → Environment → Environment → ThreadNo → Call → Answer → Type 0
IsCalledBy (Some e) old new thread c a = (new ≡ old) × (a ≡ answer.Refused e)
IsCalledBy None old new thread c a = Went old new thread c a

-- a call at a thread: refused from what the environment keeps, and then nothing changed; or answered by its desk there
abbrev pub IsCalled : Environment → Environment → ThreadNo → Call → Answer → Type 0
IsCalled old new thread c a = IsCalledBy (refusal_of old thread c a) old new thread c a

-- an answer of a kind that this call may have
abbrev pub IsKind : Call → Answer → Type 0
IsKind c (answer.Refused e) = Unit {0}
IsKind call.State (answer.State bits) = Unit {0}
IsKind call.FrameCount (answer.Count n) = Unit {0}
IsKind (call.Trace start max_count) (answer.Trace b) = Unit {0}
IsKind (call.Location depth) (answer.Location f) = Unit {0}
IsKind call.Suspend answer.Done = Unit {0}
IsKind call.Resume answer.Done = Unit {0}
IsKind call.GetWord (answer.Word w) = Unit {0}
IsKind (call.SetWord word) answer.Done = Unit {0}
IsKind call.Pop answer.Done = Unit {0}
IsKind _ _ = ⊥

-- the answers of calls, taken from what their methods return
abbrev pub in_state : Result ℕ TiError → Answer
in_state (Ok bits) = answer.State bits
in_state (Err e) = answer.Refused e

abbrev pub in_count : Result ℕ TiError → Answer
in_count (Ok n) = answer.Count n
in_count (Err e) = answer.Refused e

abbrev pub in_word : Result ℕ TiError → Answer
in_word (Ok w) = answer.Word w
in_word (Err e) = answer.Refused e

abbrev pub in_location : Result Frame TiError → Answer
in_location (Ok f) = answer.Location f
in_location (Err e) = answer.Refused e

abbrev pub in_trace : Result buffer.Trace TiError → Answer
in_trace (Ok b) = answer.Trace (bare_trace b.frames)
in_trace (Err e) = answer.Refused e

abbrev pub in_done : Result (Unit {0}) TiError → Answer
in_done (Ok u) = answer.Done
in_done (Err e) = answer.Refused e
