-- Laws of histories.
use Rattle.std.specs.Prelude.{ℕ, Bool, false, if◌then◌else◌, slice_set, ◌≡◌, ◌+◌, ◌*◌, ◌≤◌, ◌<◌, slice_index, true, length, List, ◌++◌, Some}
use Rattle.ti_types.specs.declared.limits.Limits.{Limits}
use Rattle.ti_types.specs.declared.entry.Entry.{Entry}
use Rattle.ti_types.specs.declared.answer.Answer.{Answer}
use Rattle.ti_types.specs.declared.answer.Answer.TheVariants as answer
use Rattle.ti_types.specs.declared.call.Call.{Call}
use Rattle.ti_types.specs.declared.call.Call.TheVariants.{Suspend, Resume, SetWord, Pop}
use Rattle.ti_types.specs.declared.step.Step.TheVariants.{Leave}
use Rattle.ti_types.specs.declared.view.ThreadView.{ThreadView}
use Rattle.ti_replay.specs.Settling.{Placed, settled}
use Rattle.ti_types.specs.declared.numbers.ThreadNo.{ThreadNo}
use Rattle.ti_types.specs.declared.numbers.EnvNo.{EnvNo}
use Rattle.ti_replay.specs.Answers.{answer_of}
use Rattle.ti_replay.specs.View.{view, called, frames_after}
use Rattle.ti_replay.specs.Word.{word_of}
use Rattle.ti_replay.specs.Replies.{reply}
use Rattle.ti_replay.specs.Legal.{is_legal}
use Rattle.ti_replay.specs.Admission.{Happening}
use Rattle.ti_replay.specs.Events.{history_of}

-- what has taken place in a history stays, whatever comes after it
abbrev pub SettledStays : Type 0
SettledStays = (history more : List Entry) → (rest : List Placed) × (settled (history ++ more) ≡ settled history ++ rest)

-- a reply that is given stays
abbrev pub ReplyStays : Type 0
ReplyStays =
    (limits : Limits) (history more : List Entry) (place : ℕ) (answer : Answer) →
    reply limits history place ≡ Some answer → reply limits (history ++ more) place ≡ Some answer

-- whatever happens, the history of a thread is legal
abbrev pub HistoryIsLegal : Type 0
HistoryIsLegal = (limits : Limits) (thread : ThreadNo) (events : List Happening) → is_legal limits (history_of limits thread events) ≡ true

-- a legal history is no longer than its budgets allow
abbrev pub HistoryIsBounded : Type 0
HistoryIsBounded =
    (limits : Limits) (history : List Entry) → is_legal limits history ≡ true → length history ≤ limits.own + 4 * (limits.envs * limits.calls) + 2

-- for a legal history, the word in the view is the last one that the environment set
abbrev pub WordIsLast : Type 0
WordIsLast =
    (limits : Limits) (history : List Entry) (env : EnvNo) →
    is_legal limits history ≡ true → env.0 < limits.envs → slice_index (view limits history).words env.0 ≡ word_of history env

abbrev pub is_done : Answer → Bool
is_done answer.Done = true
is_done _ = false

-- what a call changes when it is done
abbrev pub changed : ThreadView → EnvNo → Call → ThreadView
changed v env Suspend = record v { suspended = true }
changed v env Resume = record v { suspended = false }
changed v env (SetWord word) = record v { words = slice_set v.words env.0 word }
changed v env Pop = record v { frames = frames_after v.frames Leave }
changed v env _ = v

-- a call changes the view only if the answer is that it is done
abbrev pub CallsChangeWhereDone : Type 0
CallsChangeWhereDone = (v : ThreadView) (env : EnvNo) (call : Call) → called v env call ≡ (if is_done (answer_of v env call) then changed v env call else v)
