-- Worked lists of events about frames, computed.
use Rattle.std.proofs.Common.{◌≡◌, [], ◌∷◌, refl, pos, negsuc}
use Rattle.ti_types.specs.declared.step.Step.TheVariants.{Enter, EnterNative, At}
use Rattle.ti_types.specs.declared.call.Call.TheVariants as call
use Rattle.ti_types.specs.declared.event.Event.TheVariants.{Start, Own, Poll, ToNative, Back, Ask}
use Rattle.ti_types.specs.declared.answer.Answer.TheVariants as answer
use Rattle.ti_types.specs.declared.error.TiError.TheVariants.{ThreadNotAlive, NoMoreFrames, IllegalArgument}
use Rattle.ti_replay.proofs.WorkedEvents.{t, e, a, b, c, n, small, java, native_of, run, ok, went, gave, error, trace}

-- start 0 on an empty stack gives no frame
empty_stack_gives_empty_trace :
    run small (Start t ∷ Ask e t (call.Trace (pos 0) (pos 5)) ∷ Poll t ∷ [])
    ≡ ok ∷ trace [] ∷ went ∷ []
empty_stack_gives_empty_trace = refl

-- a start counts from the newest frame, or from the oldest
traces_start_anywhere :
    run small (Start t ∷ Own t (Enter a) ∷ Own t (At 3) ∷ Own t (Enter b) ∷ Own t (Enter c) ∷ Ask e t (call.Trace (negsuc 0) (pos 9))
    ∷ Ask e t (call.Trace (negsuc 2) (pos 9)) ∷ Ask e t (call.Trace (negsuc 3) (pos 9))
    ∷ Ask e t (call.Trace (pos 3) (pos 1)) ∷ Ask e t (call.Trace (pos 2) (pos 0)) ∷ Poll t ∷ [])
    ≡ ok ∷ ok ∷ ok ∷ ok ∷ ok ∷ trace ((java a 3) ∷ []) ∷ trace ((java c 0) ∷ (java b 0) ∷ (java a 3) ∷ [])
    ∷ error IllegalArgument ∷ error IllegalArgument ∷ trace [] ∷ went ∷ []
traces_start_anywhere = refl

-- no count is below 0, and a large one takes what is there
counts_bound_traces :
    run small (Ask e t (call.Trace (pos 0) (negsuc 0)) ∷ Ask e t (call.Trace (pos 0) (pos 1)) ∷ Start t ∷ Own t (Enter a)
    ∷ Ask e t (call.Trace (pos 0) (pos 2147483647)) ∷ Poll t ∷ [])
    ≡ error IllegalArgument ∷ error ThreadNotAlive ∷ ok ∷ ok ∷ trace ((java a 0) ∷ []) ∷ went ∷ []
counts_bound_traces = refl

-- the frame at a depth
locations_by_depth :
    run small (Start t ∷ Own t (Enter a) ∷ Own t (Enter b) ∷ Own t (EnterNative n) ∷ Ask e t (call.Location (pos 0))
    ∷ Ask e t (call.Location (pos 3)) ∷ Ask e t (call.Location (negsuc 0)) ∷ Ask e t (call.Location (pos 2)) ∷ Poll t ∷ [])
    ≡ ok ∷ ok ∷ ok ∷ ok ∷ gave (answer.Location (native_of n)) ∷ error NoMoreFrames ∷ error IllegalArgument
    ∷ gave (answer.Location (java a 0)) ∷ went ∷ []
locations_by_depth = refl

-- a native frame has no position
native_frames_in_traces :
    run small (Start t ∷ Own t (Enter a) ∷ Ask e t call.FrameCount ∷ Own t (EnterNative n) ∷ ToNative t
    ∷ Ask e t (call.Trace (pos 0) (pos 2)) ∷ Back t ∷ [])
    ≡ ok ∷ ok ∷ gave (answer.Count 2) ∷ ok ∷ ok ∷ trace ((native_of n) ∷ (java a 0) ∷ []) ∷ ok ∷ []
native_frames_in_traces = refl

-- no events
nothing_happens : run small [] ≡ []
nothing_happens = refl
