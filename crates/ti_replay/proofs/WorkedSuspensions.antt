-- Worked lists of events about suspensions and capabilities, computed.
use Rattle.std.proofs.Common.{◌≡◌, [], ◌∷◌, refl}
use Rattle.ti_types.specs.declared.step.Step.TheVariants.{EnterNative, Leave}
use Rattle.ti_types.specs.declared.call.Call.TheVariants as call
use Rattle.ti_types.specs.declared.event.Event.TheVariants.{Start, Own, Poll, ToNative, Back, Ask, AddCaps, Relinquish, GetCaps}
use Rattle.ti_types.specs.declared.answer.Answer.TheVariants as answer
use Rattle.ti_types.specs.declared.error.TiError.TheVariants.{InvalidThread, ThreadNotSuspended, ThreadNotAlive, NotAvailable, MustPossessCapability, Barred, NoNativeFrame}
use Rattle.ti_replay.proofs.WorkedEvents.{t, ninth, e, f, n, small, set_of, run, ok, refused, held, gave, done, error}

-- a capability that is given up later does not undo a suspension
capability_relinquished_later :
    run small (AddCaps e (set_of 1) ∷ Start t ∷ Ask e t call.Suspend ∷ Relinquish e (set_of 1) ∷ Poll t ∷ Ask e t call.Resume
    ∷ Ask e t call.State ∷ Back t ∷ [])
    ≡ done ∷ ok ∷ done ∷ done ∷ held ∷ error MustPossessCapability ∷ gave (answer.State 0x100005) ∷ refused Barred ∷ []
capability_relinquished_later = refl

-- a resumption at a running thread does not wait for the suspension before it
resumption_does_not_wait :
    run small (AddCaps e (set_of 1) ∷ AddCaps f (set_of 1) ∷ Start t ∷ Ask e t call.Suspend ∷ Ask f t call.Resume ∷ Poll t
    ∷ Ask f t call.Resume ∷ Back t ∷ [])
    ≡ done ∷ done ∷ ok ∷ done ∷ error ThreadNotSuspended ∷ held ∷ done ∷ ok ∷ []
resumption_does_not_wait = refl

-- a thread that is suspended in native code does not return
suspended_in_native :
    run small (AddCaps e (set_of 1) ∷ Start t ∷ ToNative t ∷ Own t (EnterNative n) ∷ ToNative t ∷ Ask e t call.Suspend
    ∷ Ask e t call.State ∷ Back t ∷ Ask e t call.Resume ∷ Back t ∷ Own t Leave ∷ [])
    ≡ done ∷ ok ∷ refused NoNativeFrame ∷ ok ∷ ok ∷ done ∷ gave (answer.State 0x500005) ∷ refused Barred ∷ done ∷ ok ∷ ok ∷ []
suspended_in_native = refl

-- the capability is tested before the thread, and all capabilities are added or none
refusals_have_an_order :
    run small (Ask e ninth call.FrameCount ∷ Ask e ninth call.Suspend ∷ AddCaps e (set_of 4) ∷ AddCaps e (set_of 5) ∷ GetCaps e
    ∷ Relinquish e (set_of 1) ∷ AddCaps e (set_of 1) ∷ GetCaps e ∷ Ask e ninth call.Suspend ∷ Ask e t call.Suspend
    ∷ Ask e t call.Resume ∷ [])
    ≡ error InvalidThread ∷ error MustPossessCapability ∷ error NotAvailable ∷ error NotAvailable
    ∷ gave (answer.Caps (set_of 0)) ∷ done ∷ done ∷ gave (answer.Caps (set_of 1)) ∷ error InvalidThread
    ∷ error ThreadNotAlive ∷ error ThreadNotAlive ∷ []
refusals_have_an_order = refl
