-- A thread that an environment has stopped.
use Rattle.std.specs.Prelude.{ℕ, ◌≡◌, ◌+◌, ℤ, Bool, true, false, not, ◌&&◌, if◌then◌else◌, ◌==◌, List, [], ◌∷◌, ◌++◌, take, drop, Option, Some, is_none}
use Rattle.std.specs.List.{list_any}
use Rattle.ti_types.specs.declared.limits.Limits.{Limits}
use Rattle.ti_types.specs.declared.numbers.EnvNo.{EnvNo}
use Rattle.ti_types.specs.declared.call.Call.TheVariants.{Pop}
use Rattle.ti_types.specs.declared.entry.Entry.{Entry}
use Rattle.ti_types.specs.declared.entry.Entry.TheVariants.{Start, Own, Hand, Back, End, Go}
use Rattle.ti_types.specs.declared.view.ThreadView.{ThreadView}
use Rattle.ti_types.specs.declared.numbers.ThreadNo.{ThreadNo}
use Rattle.ti_types.specs.declared.event.Event.{Event}
use Rattle.ti_types.specs.declared.event.Event.TheVariants as event
use Rattle.ti_types.specs.declared.event.Outcome.{Outcome}
use Rattle.ti_types.specs.declared.event.Outcome.TheVariants as outcome
use Rattle.ti_types.specs.declared.answer.Answer.TheVariants as answer
use Rattle.ti_types.specs.Frames.{bare_trace}
use Rattle.ti_types.specs.State.{bits_of}
use Rattle.ti_replay.specs.Answers.{is_running, or_zero}
use Rattle.ti_replay.specs.Legal.{is_legal, is_stopper}
use Rattle.ti_replay.specs.View.{view}
use Rattle.ti_replay.specs.Admission.{Happening, dealings, refusal, is_own_of}
use Rattle.ti_replay.specs.Events.{history_of}
use Rattle.ti_replay.specs.Outcomes.{out_of}

-- the environment's stop is in force, and the thread does not run
abbrev pub stands_for : EnvNo → ThreadView → Bool
stands_for env v = is_stopper v.stopper env && not (is_running v.mode)

abbrev pub is_standing : Limits → List Entry → EnvNo → Bool
is_standing limits history env = stands_for env (view limits history)

abbrev pub is_own_entry : Entry → Bool
is_own_entry Start = true
is_own_entry (Own step) = true
is_own_entry (Hand safe) = true
is_own_entry Back = true
is_own_entry End = true
is_own_entry _ = false

abbrev pub is_go_of : EnvNo → Entry → Bool
is_go_of env (Go other) = other.0 == env.0
is_go_of env _ = false

-- up to the environment's first go there is no entry of the thread's own
abbrev pub is_still : EnvNo → List Entry → Bool
is_still env [] = true
is_still env (x ∷ history) = if is_go_of env x then true else not (is_own_entry x) && is_still env history

-- what comes after a history that leaves the thread standing for an environment
abbrev pub StandsStill : Type 0
StandsStill =
    (limits : Limits) (history more : List Entry) (env : EnvNo) →
    is_legal limits (history ++ more) ≡ true → is_standing limits history env ≡ true → is_still env more ≡ true

-- whether an event is a go of the environment at the thread
abbrev pub is_go_at : EnvNo → ThreadNo → Event → Bool
is_go_at env thread (event.Go e t) = e.0 == env.0 && t.0 == thread.0
is_go_at env thread _ = false

-- whether the environment lets the thread go among these
abbrev pub lets_go : EnvNo → ThreadNo → List Happening → Bool
lets_go env thread events = list_any (λ h. is_go_at env thread h.event) events

-- whether an event of a thread's own was refused
abbrev pub was_refused : Option Outcome → Bool
was_refused (Some (outcome.Refused error)) = true
was_refused _ = false

-- whether an event is a pop at the thread
abbrev pub is_pop_at : ThreadNo → Event → Bool
is_pop_at thread (event.Ask e t Pop) = t.0 == thread.0
is_pop_at thread _ = false

-- whether a call was done
abbrev pub was_done : Option Outcome → Bool
was_done (Some (outcome.Gave answer.Done)) = true
was_done _ = false

-- 1 for a pop at the thread that is done
abbrev pub pop_count : ThreadNo → Event → Option Outcome → ℕ
pop_count thread event o = if is_pop_at thread event && was_done o then 1 else 0

-- how many pops at the thread are done, among events after a prefix of all events
abbrev pub pops_done : Limits → ThreadNo → List Happening → List Happening → List Happening → ℕ
pops_done limits thread all front [] = 0
pops_done limits thread all front (h ∷ more) =
    pop_count thread h.event (out_of limits all front h) + pops_done limits thread all (front ++ h ∷ []) more

-- A thread is as it was at an earlier prefix of the events, and stays so after more of them. The environment's stop is in
-- force, and each own event is refused and leaves nothing. An admitted read shows the earlier mode and frames. Of the frames
-- only those are gone that were popped since, the newest first. The suspended flag may change
pub record IsHeld (limits : Limits) (env : EnvNo) (thread : ThreadNo) (front more now : List Happening) : Type 0 where
  pub stands : is_standing limits (history_of limits thread now) env ≡ true
  pub mode : (view limits (history_of limits thread now)).mode ≡ (view limits (history_of limits thread front)).mode
  pub frames : (rest : List Happening)
      → (view limits (history_of limits thread now)).frames ≡ drop (pops_done limits thread (now ++ rest) front more) (view limits (history_of limits thread front)).frames
  pub refused : (all : List Happening) → (h : Happening) → is_own_of thread h.event ≡ true → was_refused (out_of limits all now h) ≡ true
  pub nothing_left : (h : Happening) → is_own_of thread h.event ≡ true → history_of limits thread (now ++ h ∷ []) ≡ history_of limits thread now
  pub reads : (rest : List Happening) → (max_count : ℤ) → (wanting : Bool)
      → is_none (refusal limits (dealings limits env thread now) (record { event = event.Read env thread max_count; wanting = wanting })) ≡ true
      → out_of limits (now ++ record { event = event.Read env thread max_count; wanting = wanting } ∷ rest) now (record { event = event.Read env thread max_count; wanting = wanting })
      ≡ Some (outcome.Gave (answer.Stack (bits_of (view limits (history_of limits thread front)).mode (view limits (history_of limits thread now)).suspended)
      (bare_trace (take (or_zero max_count) (drop (pops_done limits thread (now ++ record { event = event.Read env thread max_count; wanting = wanting } ∷ rest) front more)
      (view limits (history_of limits thread front)).frames)))))

-- after a prefix that leaves a thread standing for an environment, and until that lets the thread go, all is of one state
abbrev pub OneStateUnderAStop : Type 0
OneStateUnderAStop =
    (limits : Limits) (env : EnvNo) (thread : ThreadNo) (front more : List Happening) →
    is_standing limits (history_of limits thread front) env ≡ true → lets_go env thread more ≡ false →
    IsHeld limits env thread front more (front ++ more)
