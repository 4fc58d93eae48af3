-- A suspended thread that does not run: how it gets there, and what stays until somebody resumes it.
use Rattle.std.specs.Prelude.{ℕ, ℤ, ◌≡◌, Bool, true, false, ◌&&◌, List, [], ◌∷◌, ◌++◌, length, drop, Some}
use Rattle.std.specs.List.{list_any}
use Rattle.ti_types.specs.declared.limits.Limits.{Limits}
use Rattle.ti_types.specs.declared.numbers.EnvNo.{EnvNo}
use Rattle.ti_types.specs.declared.entry.Entry.{Entry}
use Rattle.ti_types.specs.declared.entry.Entry.TheVariants.{Asked}
use Rattle.ti_types.specs.declared.call.Call.TheVariants.{Suspend, Resume, Trace}
use Rattle.ti_types.specs.declared.answer.Answer.{Answer}
use Rattle.ti_types.specs.declared.answer.Answer.TheVariants as answer
use Rattle.ti_types.specs.declared.view.ThreadView.{ThreadView}
use Rattle.ti_replay.specs.Answers.{is_safe}
use Rattle.ti_replay.specs.Legal.{is_legal}
use Rattle.ti_replay.specs.Makers.{made_by}
use Rattle.ti_replay.specs.Replies.{reply}
use Rattle.ti_replay.specs.View.{view}
use Rattle.ti_replay.specs.Fronts.{popped_behind}

abbrev pub is_resumption : Entry → Bool
is_resumption (Asked env number Resume) = true
is_resumption _ = false

-- suspended, and in native code, blocked or at a poll
abbrev pub rests : ThreadView → Bool
rests v = v.suspended && is_safe v.mode

-- what stays after a prefix at which the thread rests, while nobody asks for a resumption
pub record StaysSuspended (limits : Limits) (before more : List Entry) : Type 0 where
  pub none : made_by 0 more ≡ []
  pub still : rests (view limits (before ++ more)) ≡ true
  pub mode : (view limits (before ++ more)).mode ≡ (view limits before).mode
  pub frames : (view limits (before ++ more)).frames ≡ drop (popped_behind limits before more) (view limits before).frames

abbrev pub SuspensionsStay : Type 0
SuspensionsStay =
    (limits : Limits) (before more : List Entry) → is_legal limits (before ++ more) ≡ true → rests (view limits before) ≡ true → list_any is_resumption more ≡ false
    → StaysSuspended limits before more

-- a trace that is asked after a prefix, and its reply in a history that goes on after it
abbrev pub Traced : Limits → List Entry → EnvNo → ℕ → ℤ → ℤ → List Entry → Answer → Type 0
Traced limits before env number start max_count rest a = reply limits ((before ++ Asked env number (Trace start max_count) ∷ []) ++ rest) (length before) ≡ Some a

abbrev pub TracesAgree : Type 0
TracesAgree =
    (limits : Limits) (before one two rest_one rest_two : List Entry) (e f : EnvNo) (m n : ℕ) (start max_count : ℤ) (a b : Answer)
    → is_legal limits (before ++ one) ≡ true → is_legal limits (before ++ two) ≡ true → rests (view limits before) ≡ true
    → list_any is_resumption one ≡ false → list_any is_resumption two ≡ false → popped_behind limits before one ≡ popped_behind limits before two
    → Traced limits (before ++ one) e m start max_count rest_one a → Traced limits (before ++ two) f n start max_count rest_two b → a ≡ b

-- a history with a suspension that is asked after a prefix
abbrev pub suspending : List Entry → EnvNo → ℕ → List Entry → List Entry
suspending before env number more = (before ++ Asked env number Suspend ∷ []) ++ more

-- the suspension is answered Done
abbrev pub IsSuspended : Limits → List Entry → EnvNo → ℕ → List Entry → Type 0
IsSuspended limits before env number more = reply limits (suspending before env number more) (length before) ≡ Some answer.Done

-- what comes after the suspension: a part up to its answer, and the rest. When it is answered, the thread rests
pub record TakesHold (limits : Limits) (before : List Entry) (env : EnvNo) (number : ℕ) (more : List Entry) : Type 0 where
  pub until : List Entry
  pub later : List Entry
  pub parts : more ≡ until ++ later
  pub done : IsSuspended limits before env number until
  pub still : rests (view limits (suspending before env number until)) ≡ true

-- a suspension that is done found the thread alive, and leaves it suspended and not running
abbrev pub SuspensionsTakeHold : Type 0
SuspensionsTakeHold =
    (limits : Limits) (before : List Entry) (env : EnvNo) (number : ℕ) (more : List Entry) → IsSuspended limits before env number more → TakesHold limits before env number more

-- the thread still rests there, if nobody has asked for a resumption since
abbrev pub SuspendedRest : Type 0
SuspendedRest =
    (limits : Limits) (before : List Entry) (env : EnvNo) (number : ℕ) (more : List Entry) → is_legal limits (suspending before env number more) ≡ true
    → IsSuspended limits before env number more → list_any is_resumption more ≡ false → rests (view limits (suspending before env number more)) ≡ true

-- two traces agree for one who knows that its suspension was done, and that nobody asked for a resumption
abbrev pub SuspendedTracesAgree : Type 0
SuspendedTracesAgree =
    (limits : Limits) (before : List Entry) (env : EnvNo) (number : ℕ) (more one two rest_one rest_two : List Entry) (e f : EnvNo) (m n : ℕ) (start max_count : ℤ) (a b : Answer)
    → is_legal limits (suspending before env number more ++ one) ≡ true → is_legal limits (suspending before env number more ++ two) ≡ true
    → IsSuspended limits before env number more → list_any is_resumption (more ++ one) ≡ false → list_any is_resumption (more ++ two) ≡ false
    → popped_behind limits (suspending before env number more) one ≡ popped_behind limits (suspending before env number more) two
    → Traced limits (suspending before env number more ++ one) e m start max_count rest_one a → Traced limits (suspending before env number more ++ two) f n start max_count rest_two b → a ≡ b
