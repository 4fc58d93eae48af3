-- Worked lists of events about the state of a thread and its end, computed.
use Rattle.std.proofs.Common.{◌≡◌, [], ◌∷◌, refl}
use Rattle.ti_types.specs.declared.state.Kind.TheVariants.{MonitorEnter, ObjectWait, TimedWait, Sleep, Park, TimedPark}
use Rattle.ti_types.specs.declared.step.Step.TheVariants.{Enter}
use Rattle.ti_types.specs.declared.call.Call.TheVariants as call
use Rattle.ti_types.specs.declared.event.Event.TheVariants.{Start, Own, ToBlocked, Back, End, Ask}
use Rattle.ti_types.specs.declared.answer.Answer.TheVariants as answer
use Rattle.ti_types.specs.declared.error.TiError.TheVariants.{ThreadNotAlive, NotRunning, NotSafe, NotNew}
use Rattle.ti_replay.proofs.WorkedEvents.{t, e, f, a, small, run, ok, refused, gave, done, error}

-- the state bits of each mode
bits_of_each_mode :
    run small (Ask f t call.State ∷ Start t ∷ Ask f t call.State ∷ ToBlocked t MonitorEnter ∷ Ask e t call.State ∷ Back t
    ∷ ToBlocked t ObjectWait ∷ Ask e t call.State ∷ Back t ∷ ToBlocked t TimedWait ∷ Ask e t call.State ∷ Back t
    ∷ ToBlocked t Sleep ∷ Ask e t call.State ∷ Back t ∷ ToBlocked t Park ∷ Ask e t call.State ∷ Back t
    ∷ ToBlocked t TimedPark ∷ Ask e t call.State ∷ Back t ∷ End t ∷ Ask f t call.State ∷ [])
    ≡ gave (answer.State 0x0) ∷ ok ∷ gave (answer.State 0x5) ∷ ok ∷ gave (answer.State 0x401) ∷ ok ∷ ok
    ∷ gave (answer.State 0x191) ∷ ok ∷ ok ∷ gave (answer.State 0x1a1) ∷ ok ∷ ok ∷ gave (answer.State 0xe1) ∷ ok ∷ ok
    ∷ gave (answer.State 0x291) ∷ ok ∷ ok ∷ gave (answer.State 0x2a1) ∷ ok ∷ ok ∷ gave (answer.State 0x2) ∷ []
bits_of_each_mode = refl

-- a thread that has ended is not alive and does not start again
nothing_after_the_end :
    run small (Start t ∷ Own t (Enter a) ∷ Ask e t (call.SetWord 7) ∷ Ask e t call.FrameCount ∷ End t ∷ Ask e t call.GetWord ∷ End t
    ∷ Start t ∷ Back t ∷ [])
    ≡ ok ∷ ok ∷ done ∷ error ThreadNotAlive ∷ ok ∷ error ThreadNotAlive ∷ refused NotRunning ∷ refused NotNew ∷ refused NotSafe
    ∷ []
nothing_after_the_end = refl
