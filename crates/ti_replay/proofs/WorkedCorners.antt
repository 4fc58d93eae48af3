-- Numbers that are out of range, ended threads, the ends of the integers, lack of memory, and what a refused stop costs.
use Rattle.std.proofs.Common.{◌≡◌, true, false, [], ◌∷◌, refl, pos, negsuc}
use Rattle.ti_types.specs.declared.numbers.EnvNo.{EnvNo}
use Rattle.ti_types.specs.declared.step.Step.TheVariants.{Enter}
use Rattle.ti_types.specs.declared.state.Kind.TheVariants.{Sleep}
use Rattle.ti_types.specs.declared.call.Call.TheVariants as call
use Rattle.ti_types.specs.declared.event.Event.{Event}
use Rattle.ti_types.specs.declared.event.Event.TheVariants.{Start, Own, Poll, ToNative, ToBlocked, Back, End, Ask, Stop, Read, Go, AddCaps, Relinquish, GetCaps, SetEnvWord, GetEnvWord}
use Rattle.ti_types.specs.declared.answer.Answer.TheVariants as answer
use Rattle.ti_types.specs.declared.error.TiError.TheVariants.{InvalidThread, ThreadNotAlive, NoMoreFrames, NotAvailable, MustPossessCapability, IllegalArgument, OutOfMemory, InvalidEnvironment, NotRunning, NotSafe, CallsSpent, NotNew, AlreadyStopped, NotStopped}
use Rattle.ti_types.specs.declared.entry.Entry.TheVariants as entry
use Rattle.ti_replay.specs.Admission.{Happening}
use Rattle.ti_replay.specs.Agreement.{kept}
use Rattle.ti_replay.specs.Outcomes.{outs}
use Rattle.ti_replay.specs.Word.{word_of}
use Rattle.ti_replay.proofs.WorkedEvents.{t, u, ninth, e, f, a, b, small, least, set_of, run, ok, refused, gave, done, error, trace, stack, java}

-- an environment that is not there
abbrev g : EnvNo
g = record { 0 = 9 }

-- which refusal comes first where several would do
numbers_out_of_range :
    run small (Ask g ninth call.Suspend ∷ Ask e ninth call.Suspend ∷ Ask e ninth (call.Trace (pos 0) (negsuc 0)) ∷ Stop g ninth ∷ Stop e ninth
    ∷ Read g t (negsuc 0) ∷ Read e ninth (negsuc 0) ∷ Read e t (negsuc 0) ∷ Read e t (pos 1) ∷ Go g ninth ∷ Go e ninth ∷ Go e t
    ∷ AddCaps g (set_of 4) ∷ AddCaps e (set_of 4) ∷ AddCaps e (set_of 8) ∷ AddCaps e (set_of 3) ∷ GetCaps e ∷ Relinquish g (set_of 1) ∷ GetCaps g ∷ SetEnvWord g 1 ∷ GetEnvWord g
    ∷ Poll t ∷ Poll ninth ∷ Start ninth ∷ ToNative t ∷ Back t ∷ End t ∷ [])
    ≡ error InvalidEnvironment ∷ error MustPossessCapability ∷ error InvalidThread ∷ error InvalidEnvironment ∷ error InvalidThread
    ∷ error InvalidEnvironment ∷ error InvalidThread ∷ error IllegalArgument ∷ error NotStopped ∷ error InvalidEnvironment ∷ error InvalidThread ∷ error NotStopped
    ∷ error InvalidEnvironment ∷ error NotAvailable ∷ error NotAvailable ∷ done ∷ gave (answer.Caps (set_of 3)) ∷ error InvalidEnvironment ∷ error InvalidEnvironment ∷ error InvalidEnvironment ∷ error InvalidEnvironment
    ∷ refused NotRunning ∷ refused InvalidThread ∷ refused InvalidThread ∷ refused NotRunning ∷ refused NotSafe ∷ refused NotRunning ∷ []
numbers_out_of_range = refl

-- a thread that has ended is stopped and read, and has no frames
ended_threads :
    run small (Start t ∷ Own t (Enter a) ∷ Ask e t call.FrameCount ∷ Ask f t (call.Trace (pos 0) (pos 3)) ∷ End t ∷ Stop e t ∷ Read e t (pos 5)
    ∷ Start t ∷ Back t ∷ Ask e t call.State ∷ Ask f t (call.Trace (pos 7) (pos 1)) ∷ Go e t ∷ [])
    ≡ ok ∷ ok ∷ error ThreadNotAlive ∷ error ThreadNotAlive ∷ ok ∷ done ∷ stack 0x2 [] ∷ refused NotNew ∷ refused NotSafe ∷ gave (answer.State 0x2) ∷ error ThreadNotAlive ∷ done ∷ []
ended_threads = refl

-- the ends of the numbers' range
extremes :
    run small (Start t ∷ Own t (Enter a) ∷ ToBlocked t Sleep ∷ Ask e t (call.Trace (negsuc 2147483647) (pos 2147483647)) ∷ Ask e t (call.Trace (pos 2147483647) (pos 1)) ∷ Ask e t (call.Trace (negsuc 0) (pos 2147483647))
    ∷ Ask e t (call.Location (pos 2147483647)) ∷ Ask e t (call.Trace (pos 0) (negsuc 2147483647)) ∷ Ask e t (call.Location (negsuc 2147483647)) ∷ [])
    ≡ ok ∷ ok ∷ ok ∷ error IllegalArgument ∷ error IllegalArgument ∷ trace ((java a 0) ∷ []) ∷ error NoMoreFrames ∷ error IllegalArgument ∷ error IllegalArgument ∷ []
extremes = refl

-- an event where memory runs out, and one where it is not
abbrev wanting : Event → Happening
wanting x = record { event = x; wanting = true }

abbrev plain : Event → Happening
plain x = record { event = x; wanting = false }

-- a call that is refused for lack of memory costs nothing, and only a trace and a read take memory
wants :
    outs least (wanting (Ask e t (call.Trace (pos 0) (pos 1))) ∷ wanting (Read e t (pos 1)) ∷ wanting (Ask e t (call.Trace (pos 0) (negsuc 0)))
    ∷ wanting (Ask e t call.FrameCount) ∷ wanting (Ask e t (call.Trace (pos 0) (pos 1))) ∷ wanting (Start t) ∷ [])
    ≡ error OutOfMemory ∷ error OutOfMemory ∷ error IllegalArgument ∷ error ThreadNotAlive ∷ error CallsSpent ∷ ok ∷ []
wants = refl

-- a stop that the thread refuses has cost its one call, and a go costs none
stops_cost :
    run least (Stop e t ∷ Stop f t ∷ Stop f t ∷ Read f t (pos 1) ∷ Go e t ∷ Stop e t ∷ [])
    ≡ done ∷ error AlreadyStopped ∷ error CallsSpent ∷ error CallsSpent ∷ done ∷ error CallsSpent ∷ []
stops_cost = refl

-- events elsewhere, calls of others that are not admitted, and marks that mean nothing are not kept
the_same_is_kept :
    kept small e t ((plain (Start t)) ∷ (plain (Own t (Enter a))) ∷ (plain (Ask e t call.FrameCount)) ∷ (plain (Poll t)) ∷ [])
    ≡ kept small e t ((plain (Start u)) ∷ (plain (Start t)) ∷ (plain (AddCaps f (set_of 1))) ∷ (plain (Ask f u call.Suspend)) ∷ (plain (Own t (Enter a)))
    ∷ (plain (Own u (Enter b))) ∷ (wanting (Ask e t call.FrameCount)) ∷ (plain (Ask f u call.FrameCount)) ∷ (plain (Ask g t call.FrameCount)) ∷ (plain (Poll t)) ∷ (plain (Poll u)) ∷ [])
the_same_is_kept = refl

-- lives are read off the entries alone, also where no thread makes such entries
word_after_an_end : word_of (entry.End ∷ entry.Start ∷ entry.Asked e 0 (call.SetWord 5) ∷ []) e ≡ 5
word_after_an_end = refl
