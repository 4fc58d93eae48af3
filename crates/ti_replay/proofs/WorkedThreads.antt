-- Worked lists of events of two threads, computed.
use Rattle.std.proofs.Common.{◌≡◌, [], ◌∷◌, refl}
use Rattle.ti_types.specs.declared.step.Step.TheVariants.{Enter}
use Rattle.ti_types.specs.declared.call.Call.TheVariants as call
use Rattle.ti_types.specs.declared.event.Event.TheVariants.{Start, Own, Poll, Ask, AddCaps}
use Rattle.ti_types.specs.declared.answer.Answer.TheVariants as answer
use Rattle.ti_replay.proofs.WorkedEvents.{t, u, e, f, a, b, c, small, set_of, run, ok, went, held, gave, done}

-- a thread alone
alone :
    run small (Start t ∷ Own t (Enter a) ∷ Ask e t call.FrameCount ∷ Poll t ∷ [])
    ≡ ok ∷ ok ∷ gave (answer.Count 1) ∷ went ∷ []
alone = refl

-- events of another thread, and of another environment there, change no reply
among_others :
    run small (Start u ∷ Start t ∷ AddCaps f (set_of 1) ∷ Ask f u call.Suspend ∷ Own t (Enter a) ∷ Own u (Enter b)
    ∷ Ask e t call.FrameCount ∷ Ask f u call.FrameCount ∷ Poll t ∷ Poll u ∷ [])
    ≡ ok ∷ ok ∷ done ∷ done ∷ ok ∷ ok ∷ gave (answer.Count 1) ∷ gave (answer.Count 1) ∷ went ∷ held ∷ []
among_others = refl

-- a call waits for its own thread
calls_wait_at_their_thread :
    run small (Start t ∷ Start u ∷ Own t (Enter a) ∷ Ask e t call.FrameCount ∷ Own u (Enter b) ∷ Ask f u call.FrameCount
    ∷ Own u (Enter c) ∷ Poll u ∷ Poll t ∷ [])
    ≡ ok ∷ ok ∷ ok ∷ gave (answer.Count 1) ∷ ok ∷ gave (answer.Count 2) ∷ ok ∷ went ∷ went ∷ []
calls_wait_at_their_thread = refl
