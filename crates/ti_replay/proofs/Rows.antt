-- Worked histories, computed.
use Rattle.std.proofs.Common.{◌≡◌, true, false, List, [], ◌∷◌, ◌++◌, Some, None, refl, lit≤, pos}
use Rattle.ti_types.specs.declared.limits.Limits.{Limits}
use Rattle.ti_types.specs.declared.numbers.EnvNo.{EnvNo}
use Rattle.ti_types.specs.declared.numbers.MethodNo.{MethodNo}
use Rattle.ti_types.specs.declared.place.Place.TheVariants as place
use Rattle.ti_types.specs.declared.state.Mode.TheVariants as mode
use Rattle.ti_types.specs.declared.state.Safe.TheVariants.{Blocked, AtPoll}
use Rattle.ti_types.specs.declared.state.Kind.TheVariants.{Sleep}
use Rattle.ti_types.specs.declared.step.Step.TheVariants.{Enter}
use Rattle.ti_types.specs.declared.call.Call.TheVariants.{FrameCount, Suspend}
use Rattle.ti_types.specs.declared.entry.Entry.{Entry}
use Rattle.ti_types.specs.declared.entry.Entry.TheVariants.{Start, Own, Hand, Back, Asked, Stop, Read, Go}
use Rattle.ti_types.specs.declared.answer.Answer.TheVariants as answer
use Rattle.ti_types.specs.declared.error.TiError.TheVariants.{ThreadSuspended}
use Rattle.ti_types.specs.Frames.{bare_trace}
use Rattle.ti_replay.specs.View.{view}
use Rattle.ti_replay.specs.Legal.{is_legal, first_illegal, may_follow}
use Rattle.ti_replay.specs.Replies.{reply}

abbrev small : Limits
small = record { threads = 2; envs = 2; depth = 4; own = 32; calls = 8; window = 8; kept = true; in_range = ((lit≤ tt, lit≤ tt), (lit≤ tt, lit≤ tt), (lit≤ tt, lit≤ tt), (lit≤ tt, lit≤ tt), (lit≤ tt, lit≤ tt), (lit≤ tt, lit≤ tt)) }

abbrev e : EnvNo
e = record { 0 = 0 }

abbrev f : EnvNo
f = record { 0 = 1 }

abbrev a : MethodNo
a = record { 0 = 0 }

abbrev b : MethodNo
b = record { 0 = 1 }

-- a count that waits, before and after a hand-over
abbrev counted : List Entry
counted = Start ∷ Own (Enter a) ∷ Asked e 0 FrameCount ∷ []

waiting_count : reply small counted 2 ≡ None
waiting_count = refl

given_count : reply small (counted ++ Hand (Blocked Sleep) ∷ []) 2 ≡ Some (answer.Count 1)
given_count = refl

blocked_mode : (view small (counted ++ Hand (Blocked Sleep) ∷ [])).mode ≡ mode.AtSafe (Blocked Sleep)
blocked_mode = refl

-- a count and two suspensions that wait while the thread enters frames
abbrev suspended_twice : List Entry
suspended_twice = Start ∷ Own (Enter a) ∷ Asked e 0 FrameCount ∷ Asked f 0 Suspend ∷ Own (Enter b) ∷ Asked e 1 Suspend ∷ Own (Enter a) ∷ Hand AtPoll ∷ []

count_three : reply small suspended_twice 2 ≡ Some (answer.Count 3)
count_three = refl

first_suspends : reply small suspended_twice 3 ≡ Some answer.Done
first_suspends = refl

second_is_refused : reply small suspended_twice 5 ≡ Some (answer.Refused ThreadSuspended)
second_is_refused = refl

twice_is_legal : is_legal small suspended_twice ≡ true
twice_is_legal = refl

no_return : may_follow small suspended_twice Back ≡ false
no_return = refl

-- a stop before the start, and one at a running thread
abbrev stopped : List Entry
stopped = Stop e ∷ Read e (pos 4) ∷ Go e ∷ Start ∷ Own (Enter a) ∷ Stop e ∷ Own (Enter b) ∷ Hand AtPoll ∷ Read e (pos 1) ∷ Go e ∷ Back ∷ []

stopped_is_legal : is_legal small stopped ≡ true
stopped_is_legal = refl

new_stack : reply small stopped 1 ≡ Some (answer.Stack 0 (bare_trace []))
new_stack = refl

one_frame : reply small stopped 8 ≡ Some (answer.Stack 0x5 (bare_trace (record { method = b; place = place.Java 0 } ∷ [])))
one_frame = refl

-- a return while suspended is illegal
back_is_illegal : first_illegal small [] (Start ∷ Asked e 0 Suspend ∷ Hand AtPoll ∷ Back ∷ []) ≡ Some 3
back_is_illegal = refl
