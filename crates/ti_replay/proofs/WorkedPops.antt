-- Worked lists of events about popped frames, computed.
use Rattle.std.proofs.Common.{◌≡◌, [], ◌∷◌, refl, Some}
use Rattle.ti_types.specs.declared.place.Place.TheVariants as place
use Rattle.ti_types.specs.declared.state.Safe.TheVariants.{AtPoll}
use Rattle.ti_types.specs.declared.step.Step.TheVariants.{Enter, EnterNative, At}
use Rattle.ti_types.specs.declared.call.Call.TheVariants as call
use Rattle.ti_types.specs.declared.entry.Entry.TheVariants as entry
use Rattle.ti_types.specs.declared.event.Event.TheVariants.{Start, Own, Poll, Ask, Stop, Read, AddCaps}
use Rattle.ti_types.specs.declared.answer.Answer.TheVariants as answer
use Rattle.ti_types.specs.declared.error.TiError.TheVariants.{ThreadNotSuspended, NoMoreFrames, OpaqueFrame, MustPossessCapability}
use Rattle.ti_types.specs.Frames.{bare_trace}
use Rattle.std.specs.Prelude.{pos}
use Rattle.ti_replay.specs.Legal.{first_illegal}
use Rattle.ti_replay.proofs.WorkedEvents.{t, e, f, a, b, n, small, set_of, run, ok, held, gave, done, error}

-- a pop waits for a running thread, takes place in its turn, and leaves the caller where it was
pops_take_their_turn :
    run small (AddCaps e (set_of 3) ∷ Start t ∷ Own t (Enter a) ∷ Own t (At 3) ∷ Own t (Enter b) ∷ Ask e t call.Pop ∷ Ask e t call.Suspend
    ∷ Ask e t call.Pop ∷ Poll t ∷ Ask e t (call.Trace (pos 0) (pos 4)) ∷ Ask e t call.Pop ∷ Ask f t call.Pop ∷ [])
    ≡ done ∷ ok ∷ ok ∷ ok ∷ ok ∷ error ThreadNotSuspended ∷ done ∷ done ∷ held
    ∷ gave (answer.Trace (bare_trace (record { method = a; place = place.Java 3 } ∷ []))) ∷ error NoMoreFrames ∷ error MustPossessCapability ∷ []
pops_take_their_turn = refl

-- a native frame is not popped, nor the frame that it has called
native_frames_stay :
    run small (AddCaps e (set_of 3) ∷ Start t ∷ Own t (Enter a) ∷ Own t (EnterNative n) ∷ Own t (Enter b) ∷ Ask e t call.Suspend ∷ Poll t
    ∷ Ask e t call.Pop ∷ Ask e t call.FrameCount ∷ [])
    ≡ done ∷ ok ∷ ok ∷ ok ∷ ok ∷ done ∷ held ∷ error OpaqueFrame ∷ gave (answer.Count 3) ∷ []
native_frames_stay = refl

-- under a stop, a frame goes by a pop alone
popped_under_a_stop :
    run small (AddCaps f (set_of 3) ∷ Start t ∷ Own t (Enter a) ∷ Own t (Enter b) ∷ Stop e t ∷ Ask f t call.Suspend ∷ Poll t ∷ Read e t (pos 4)
    ∷ Ask f t call.Pop ∷ Read e t (pos 4) ∷ [])
    ≡ done ∷ ok ∷ ok ∷ ok ∷ done ∷ done ∷ held
    ∷ gave (answer.Stack 0x100005 (bare_trace (record { method = b; place = place.Java 0 } ∷ record { method = a; place = place.Java 0 } ∷ [])))
    ∷ done ∷ gave (answer.Stack 0x100005 (bare_trace (record { method = a; place = place.Java 0 } ∷ []))) ∷ []
popped_under_a_stop = refl

-- the return of a thread that is suspended still is illegal after a pop
no_return_behind_a_pop :
    first_illegal small [] (entry.Start ∷ entry.Own (Enter a) ∷ entry.Asked f 0 call.Suspend ∷ entry.Own (Enter b) ∷ entry.Asked f 1 call.Pop ∷ entry.Hand AtPoll ∷ entry.Back ∷ [])
    ≡ Some 6
no_return_behind_a_pop = refl
