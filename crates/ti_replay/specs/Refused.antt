-- What a refused event leaves as it was.
use Rattle.std.specs.Prelude.{ℕ, ◌≡◌, ◌<◌, ◌+◌, Bool, ◌&&◌, true, false, if◌then◌else◌, List, [], ◌∷◌, ◌++◌, Option, Some}
use Rattle.ti_types.specs.declared.limits.Limits.{Limits}
use Rattle.ti_types.specs.declared.numbers.EnvNo.{EnvNo}
use Rattle.ti_types.specs.declared.numbers.ThreadNo.{ThreadNo}
use Rattle.ti_types.specs.declared.entry.Entry.{Entry}
use Rattle.ti_types.specs.declared.entry.Entry.TheVariants as entry
use Rattle.ti_types.specs.declared.event.Event.{Event}
use Rattle.ti_types.specs.declared.event.Event.TheVariants as event
use Rattle.ti_types.specs.declared.event.Outcome.{Outcome}
use Rattle.ti_types.specs.declared.event.Outcome.TheVariants as outcome
use Rattle.ti_types.specs.declared.answer.Answer.TheVariants as answer
use Rattle.ti_replay.specs.Legal.{asked_by}
use Rattle.ti_replay.specs.Settling.{unanswered}
use Rattle.ti_replay.specs.View.{view}
use Rattle.ti_replay.specs.Admission.{Happening, dealings, is_by, is_paid}
use Rattle.ti_replay.specs.Events.{history_of, reaches}
use Rattle.ti_replay.specs.Outcomes.{out_of, env_word}

-- whether an event was refused: a thread's own, or a call
abbrev pub is_refusal : Option Outcome → Bool
is_refusal (Some (outcome.Refused error)) = true
is_refusal (Some (outcome.Gave (answer.Refused error))) = true
is_refusal _ = false

abbrev pub asked_entry : List Entry → Event → List Entry
asked_entry history (event.Ask e t call) = entry.Asked e (asked_by e history) call ∷ []
asked_entry history _ = []

-- the entry of an admitted call at the thread
abbrev pub asked_there : Limits → ThreadNo → List Happening → Happening → List Entry
asked_there limits t events h = if reaches limits t events h then asked_entry (history_of limits t events) h.event else []

-- What an event costs an environment at a thread: 1 if it is the environment's call, stop or read, and reaches the thread.
-- So a call that is not admitted costs nothing. One that is admitted and then refused by the thread costs 1. A go costs
-- nothing
abbrev pub cost_there : Limits → EnvNo → ThreadNo → List Happening → Happening → ℕ
cost_there limits e t events h = if reaches limits t events h && is_by e h.event && is_paid h.event then 1 else 0

-- No thread's mode, frames, suspended flag, stop or words change, nor which calls wait at it. Its history gets no more than
-- the entry of an admitted call. No environment's capabilities or word change. What it has spent at a thread changes only by
-- an admitted call, stop or read
pub record IsUnchanged (limits : Limits) (events : List Happening) (h : Happening) : Type 0 where
  pub views : (t : ThreadNo) → view limits (history_of limits t (events ++ h ∷ [])) ≡ view limits (history_of limits t events)
  pub waiting : (t : ThreadNo) → unanswered (history_of limits t (events ++ h ∷ [])) ≡ unanswered (history_of limits t events)
  pub histories : (t : ThreadNo) → history_of limits t (events ++ h ∷ []) ≡ history_of limits t events ++ asked_there limits t events h
  pub caps : (e : EnvNo) → (t : ThreadNo) → e.0 < limits.envs → (dealings limits e t (events ++ h ∷ [])).caps ≡ (dealings limits e t events).caps
  pub words : (e : EnvNo) → e.0 < limits.envs → env_word e (events ++ h ∷ []) ≡ env_word e events
  pub spent : (e : EnvNo) → (t : ThreadNo) → (dealings limits e t (events ++ h ∷ [])).spent ≡ (dealings limits e t events).spent + cost_there limits e t events h

-- an event that is refused when it comes changes nothing else
abbrev pub RefusalsKeep : Type 0
RefusalsKeep =
    (limits : Limits) (events : List Happening) (h : Happening) →
    is_refusal (out_of limits (events ++ h ∷ []) events h) ≡ true → IsUnchanged limits events h
