-- Laws of what a run gives: they speak of the outcomes themselves.
use Rattle.std.specs.Prelude.{ℕ, ◌+◌, ℤ, ◌≡◌, true, false, List, [], ◌∷◌, ◌++◌, length, map, take, drop, Option, Some, is_none, is_some}
use Rattle.ti_types.specs.declared.limits.Limits.{Limits}
use Rattle.ti_types.specs.declared.numbers.EnvNo.{EnvNo}
use Rattle.ti_types.specs.declared.numbers.ThreadNo.{ThreadNo}
use Rattle.ti_types.specs.declared.call.Call.TheVariants.{GetWord}
use Rattle.ti_types.specs.declared.event.Event.{Event}
use Rattle.ti_types.specs.declared.event.Event.TheVariants.{Ask, Read}
use Rattle.ti_types.specs.declared.event.Outcome.{Outcome}
use Rattle.ti_types.specs.declared.event.Outcome.TheVariants as outcome
use Rattle.ti_types.specs.declared.answer.Answer.TheVariants as answer
use Rattle.ti_types.specs.Frames.{bare_trace}
use Rattle.ti_types.specs.State.{bits_of}
use Rattle.ti_replay.specs.Answers.{or_zero}
use Rattle.ti_replay.specs.View.{view}
use Rattle.ti_replay.specs.Admission.{Happening, dealings, refusal, is_own_of}
use Rattle.ti_replay.specs.Agreement.{kept, kept_as, if_kept}
use Rattle.ti_replay.specs.Events.{history_of, refused_or}
use Rattle.ti_replay.specs.Refused.{is_refusal, IsUnchanged}
use Rattle.ti_replay.specs.Outcomes.{out_of, outs, told_later, happening, happenings}
use Rattle.ti_replay.specs.Standing.{is_standing, lets_go, was_refused, pop_count}
use Rattle.ti_replay.specs.Storage.{word_answer}

-- what a run under these limits gives for these events
abbrev pub IsRunOf : Limits → List Event → List (Option Outcome) → Type 0
IsRunOf limits events os = map told_later os ≡ outs limits (happenings events os)

-- the outcomes of those events that are kept for an environment and a thread
abbrev pub picked_from : Limits → EnvNo → ThreadNo → List Happening → List Happening → List (Option Outcome) → List (Option Outcome)
picked_from limits env thread front [] os = []
picked_from limits env thread front (h ∷ hs) [] = []
picked_from limits env thread front (h ∷ hs) (o ∷ os) =
    if_kept (kept_as limits env thread front h) (told_later o) (picked_from limits env thread (front ++ h ∷ []) hs os)

abbrev pub picked : Limits → EnvNo → ThreadNo → List Event → List (Option Outcome) → List (Option Outcome)
picked limits env thread events os = picked_from limits env thread [] (happenings events os) os

-- two runs under the same limits, with the same kept for an environment and a thread, have equal outcomes at the kept events
abbrev pub RunsAgree : Type 0
RunsAgree =
    (limits : Limits) (env : EnvNo) (thread : ThreadNo) (one other : List Event) (os ps : List (Option Outcome)) →
    IsRunOf limits one os → IsRunOf limits other ps →
    kept limits env thread (happenings one os) ≡ kept limits env thread (happenings other ps) →
    picked limits env thread one os ≡ picked limits env thread other ps

-- The outcome of a call for a word is its refusal before the thread. Otherwise it is 15 if the thread has not started or has
-- ended. Otherwise it is the word that the environment set last
abbrev pub WordsAreTold : Type 0
WordsAreTold =
    (limits : Limits) (env : EnvNo) (thread : ThreadNo) (before after : List Event) (os ps : List (Option Outcome)) (o : Option Outcome) →
    length before ≡ length os → IsRunOf limits (before ++ Ask env thread GetWord ∷ after) (os ++ o ∷ ps) →
    told_later o ≡ refused_or (refusal limits (dealings limits env thread (happenings before os)) (happening (Ask env thread GetWord) o))
    (Some (outcome.Gave (word_answer (history_of limits thread (happenings before os)) env)))

-- how many pops at the thread are done, by the outcomes of these events
abbrev pub pops_told : ThreadNo → List Event → List (Option Outcome) → ℕ
pops_told thread [] os = 0
pops_told thread (x ∷ xs) [] = 0
pops_told thread (x ∷ xs) (o ∷ os) = pop_count thread x (told_later o) + pops_told thread xs os

-- An event at a thread that has been standing since an earlier prefix of the events. One of its own is refused. An admitted
-- read shows the mode and the frames at that prefix, but for those that were popped since, the newest first. The suspended
-- flag may change
pub record TellsOneState (limits : Limits) (env : EnvNo) (thread : ThreadNo) (front now : List Happening) (popped : ℕ) (event : Event) (o : Option Outcome) : Type 0 where
  pub own : is_own_of thread event ≡ true → was_refused (told_later o) ≡ true
  pub reads : (max_count : ℤ) → event ≡ Read env thread max_count → is_none (refusal limits (dealings limits env thread now) (happening event o)) ≡ true
      → told_later o
      ≡ Some (outcome.Gave (answer.Stack (bits_of (view limits (history_of limits thread front)).mode (view limits (history_of limits thread now)).suspended)
      (bare_trace (take (or_zero max_count) (drop popped (view limits (history_of limits thread front)).frames)))))

-- from when a thread is standing for an environment, and until that lets the thread go, all is of one state
abbrev pub RunsTellOneState : Type 0
RunsTellOneState =
    (limits : Limits) (env : EnvNo) (thread : ThreadNo) (before more after : List Event) (event : Event)
    (os ps qs : List (Option Outcome)) (o : Option Outcome) →
    length before ≡ length os → length more ≡ length ps → IsRunOf limits ((before ++ more) ++ event ∷ after) ((os ++ ps) ++ o ∷ qs) →
    is_standing limits (history_of limits thread (happenings before os)) env ≡ true → lets_go env thread (happenings more ps) ≡ false →
    TellsOneState limits env thread (happenings before os) (happenings before os ++ happenings more ps) (pops_told thread more ps) event o

-- an event that is answered with a refusal when it comes changes nothing else
abbrev pub RefusalsKeepInRuns : Type 0
RefusalsKeepInRuns =
    (limits : Limits) (before after : List Event) (event : Event) (os ps : List (Option Outcome)) (o : Option Outcome) →
    length before ≡ length os → IsRunOf limits (before ++ event ∷ after) (os ++ o ∷ ps) →
    is_some (out_of limits (happenings before os ++ happening event o ∷ []) (happenings before os) (happening event o)) ≡ true →
    is_refusal (told_later o) ≡ true → IsUnchanged limits (happenings before os) (happening event o)
