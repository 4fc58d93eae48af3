-- What a thread answers to a call.
use Rattle.std.specs.Prelude.{ℕ, ◌+◌, ◌-◌, Bool, true, false, ◌||◌, if◌then◌else◌, ◌==◌, nat_lt, List, length, take, drop, Option, Some, None, slice_get, slice_index, ℤ, pos, negsuc}
use Rattle.ti_types.specs.declared.numbers.EnvNo.{EnvNo}
use Rattle.ti_types.specs.declared.place.Frame.{Frame}
use Rattle.ti_types.specs.declared.state.Mode.{Mode}
use Rattle.ti_types.specs.declared.state.Mode.TheVariants.{New, Running, AtSafe}
use Rattle.ti_types.specs.declared.call.Call.{Call}
use Rattle.ti_types.specs.declared.call.Call.TheVariants as call
use Rattle.ti_types.specs.declared.answer.Answer.{Answer}
use Rattle.ti_types.specs.declared.answer.Answer.TheVariants as answer
use Rattle.ti_types.specs.declared.error.TiError.{TiError}
use Rattle.ti_types.specs.declared.error.TiError.TheVariants.{ThreadNotAlive, ThreadSuspended, ThreadNotSuspended, IllegalArgument, NoMoreFrames}
use Rattle.ti_types.specs.declared.view.ThreadView.{ThreadView}
use Rattle.ti_types.specs.Frames.{bare_trace}
pub use Rattle.ti_types.specs.Numbers.{or_zero}
pub use Rattle.ti_types.specs.Pops.{pop_refusal}
use Rattle.ti_types.specs.State.{bits_of}

abbrev pub is_running : Mode → Bool
is_running Running = true
is_running _ = false

abbrev pub is_new : Mode → Bool
is_new New = true
is_new _ = false

abbrev pub is_safe : Mode → Bool
is_safe (AtSafe safe) = true
is_safe _ = false

abbrev pub is_alive : Mode → Bool
is_alive Running = true
is_alive (AtSafe safe) = true
is_alive _ = false

-- the depth at which a trace of this many frames starts. A negative start counts from the oldest
abbrev pub first_of_trace : ℤ → ℕ → Option ℕ
first_of_trace (pos start) count = if start == 0 || nat_lt start count then Some start else None
first_of_trace (negsuc back) count = if nat_lt back count then Some (count - (back + 1)) else None

abbrev pub trace_from : Option ℕ → ℕ → List Frame → Answer
trace_from (Some start) most frames = answer.Trace (bare_trace (take most (drop start frames)))
trace_from None most frames = answer.Refused IllegalArgument

abbrev pub location_of : Option Frame → Answer
location_of (Some frame) = answer.Location frame
location_of None = answer.Refused NoMoreFrames

-- done, or the refusal if there is one
abbrev pub done_or : Option TiError → Answer
done_or None = answer.Done
done_or (Some error) = answer.Refused error

-- the answer of a thread that is alive
abbrev pub answer_alive : ThreadView → EnvNo → Call → Answer
answer_alive v env call.State = answer.State (bits_of v.mode v.suspended)
answer_alive v env call.FrameCount = answer.Count (length v.frames)
answer_alive v env (call.Trace start max_count) = trace_from (first_of_trace start (length v.frames)) (or_zero max_count) v.frames
answer_alive v env (call.Location depth) = location_of (slice_get v.frames (or_zero depth))
answer_alive v env call.Suspend = if v.suspended then answer.Refused ThreadSuspended else answer.Done
answer_alive v env call.Resume = if v.suspended then answer.Done else answer.Refused ThreadNotSuspended
answer_alive v env call.GetWord = answer.Word (slice_index v.words env.0)
answer_alive v env (call.SetWord word) = answer.Done
answer_alive v env call.Pop = done_or (pop_refusal v.suspended v.frames)

-- every thread answers with its state. All else is answered by one that is alive
abbrev pub answer_of : ThreadView → EnvNo → Call → Answer
answer_of v env call.State = answer.State (bits_of v.mode v.suspended)
answer_of v env call = if is_alive v.mode then answer_alive v env call else answer.Refused ThreadNotAlive

-- the answer to a read under a stop: the state, and the newest frames
abbrev pub stack_of : ThreadView → ℤ → Answer
stack_of v max_count = answer.Stack (bits_of v.mode v.suspended) (bare_trace (take (or_zero max_count) v.frames))
