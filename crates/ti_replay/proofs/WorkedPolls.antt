-- Worked lists of events about calls that wait, computed.
use Rattle.std.proofs.Common.{◌≡◌, [], ◌∷◌, None, refl}
use Rattle.ti_types.specs.declared.step.Step.TheVariants.{Enter, EnterNative, At, Leave}
use Rattle.ti_types.specs.declared.call.Call.TheVariants as call
use Rattle.ti_types.specs.declared.event.Event.TheVariants.{Start, Own, Poll, Ask, AddCaps}
use Rattle.ti_types.specs.declared.answer.Answer.TheVariants as answer
use Rattle.ti_types.specs.declared.error.TiError.TheVariants.{ThreadSuspended, ThreadNotAlive, NoFrame, NotJavaFrame, NotRunning, NotNew}
use Rattle.ti_replay.proofs.WorkedEvents.{t, e, f, a, b, c, n, small, set_of, run, ok, refused, clear, went, held, gave, done, error}

-- a count waits for the next poll
count_is_answered_at_a_poll :
    run small (Start t ∷ Ask e t call.FrameCount ∷ Poll t ∷ [])
    ≡ ok ∷ gave (answer.Count 0) ∷ went ∷ []
count_is_answered_at_a_poll = refl

-- a count before the start, one that waits, and one that is left unanswered
one_call_at_a_time :
    run small (Ask e t call.FrameCount ∷ Start t ∷ Start t ∷ Own t (Enter a) ∷ Ask e t call.FrameCount ∷ Own t (Enter b) ∷ Poll t
    ∷ Poll t ∷ Ask e t call.FrameCount ∷ [])
    ≡ error ThreadNotAlive ∷ ok ∷ refused NotNew ∷ ok ∷ gave (answer.Count 2) ∷ ok ∷ went ∷ clear ∷ None ∷ []
one_call_at_a_time = refl

-- calls that wait take place in the order in which they came
calls_wait_in_order :
    run small (AddCaps e (set_of 1) ∷ AddCaps f (set_of 1) ∷ Start t ∷ Own t (Enter a) ∷ Ask e t call.FrameCount ∷ Ask f t call.Suspend
    ∷ Own t (Enter b) ∷ Ask e t call.Suspend ∷ Own t (Enter c) ∷ Poll t ∷ [])
    ≡ done ∷ done ∷ ok ∷ ok ∷ gave (answer.Count 3) ∷ done ∷ ok ∷ error ThreadSuspended ∷ ok ∷ held ∷ []
calls_wait_in_order = refl

-- steps that are refused, a poll for which nobody calls, and a count that is left unanswered
refused_steps_change_nothing :
    run small (Poll t ∷ Start t ∷ Own t Leave ∷ Own t (At 1) ∷ Own t (EnterNative n) ∷ Own t (At 1) ∷ Poll t ∷ Ask e t call.FrameCount
    ∷ [])
    ≡ refused NotRunning ∷ ok ∷ refused NoFrame ∷ refused NoFrame ∷ ok ∷ refused NotJavaFrame ∷ clear ∷ None ∷ []
refused_steps_change_nothing = refl
