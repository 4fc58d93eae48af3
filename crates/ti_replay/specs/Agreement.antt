-- On which events of a list an environment's replies about a thread depend.
use Rattle.std.specs.Prelude.{Bool, true, false, ◌&&◌, ◌||◌, if◌then◌else◌, ◌≡◌, List, [], ◌∷◌, ◌++◌, Option, Some, None, is_none}
use Rattle.ti_types.specs.declared.limits.Limits.{Limits}
use Rattle.ti_types.specs.declared.numbers.EnvNo.{EnvNo}
use Rattle.ti_types.specs.declared.numbers.ThreadNo.{ThreadNo}
use Rattle.ti_types.specs.declared.error.TiError.{TiError}
use Rattle.ti_types.specs.declared.error.TiError.TheVariants.{OutOfMemory}
use Rattle.ti_types.specs.declared.event.Event.{Event}
use Rattle.ti_types.specs.declared.event.Outcome.{Outcome}
use Rattle.ti_replay.specs.Admission.{Happening, Dealings, dealings, dealings_by, refusal, agent_of, is_aimed_at, is_own_of, is_about_caps, is_by}
use Rattle.ti_replay.specs.Outcomes.{out_of}

-- whether a refusal is for lack of memory
abbrev pub is_for_want : Option TiError → Bool
is_for_want (Some OutOfMemory) = true
is_for_want _ = false

-- an event, marked as lacking memory only if it is refused for that
abbrev pub marked : Limits → Dealings → Happening → Happening
marked limits d h = record { event = h.event; wanting = h.wanting && is_for_want (refusal limits d h) }

-- An event that is kept. `Taken` is one of the thread's own, or an admitted call of another environment. `Called` is one of
-- the environment's own calls, with whether it was refused for lack of memory
pub data Kept : Type 0 where
  Taken : (event : Event) → Kept
  Called : (happening : Happening) → Kept

-- the thread's own events, all calls of the environment at the thread and about capabilities, and the admitted
-- calls of other environments at the thread
abbrev pub kept_as : Limits → EnvNo → ThreadNo → List Happening → Happening → Option Kept
kept_as limits env thread front h =
    if is_own_of thread h.event then Some (Taken h.event)
    else if is_by env h.event && (is_aimed_at thread h.event || is_about_caps h.event) then Some (Called (marked limits (dealings limits env thread front) h))
    else if is_aimed_at thread h.event && is_none (refusal limits (dealings_by limits (agent_of h.event) thread front) h) then Some (Taken h.event)
    else None

abbrev pub with_first : Option Kept → List Kept → List Kept
with_first (Some k) rest = k ∷ rest
with_first None rest = rest

abbrev pub kept_from : Limits → EnvNo → ThreadNo → List Happening → List Happening → List Kept
kept_from limits env thread front [] = []
kept_from limits env thread front (h ∷ events) =
    with_first (kept_as limits env thread front h) (kept_from limits env thread (front ++ h ∷ []) events)

abbrev pub kept : Limits → EnvNo → ThreadNo → List Happening → List Kept
kept limits env thread events = kept_from limits env thread [] events

-- the outcomes of the kept events
abbrev pub if_kept : Option Kept → Option Outcome → List (Option Outcome) → List (Option Outcome)
if_kept (Some k) first rest = first ∷ rest
if_kept None first rest = rest

abbrev pub told_from : Limits → EnvNo → ThreadNo → List Happening → List Happening → List Happening → List (Option Outcome)
told_from limits env thread all front [] = []
told_from limits env thread all front (h ∷ events) =
    if_kept (kept_as limits env thread front h) (out_of limits all front h) (told_from limits env thread all (front ++ h ∷ []) events)

abbrev pub told : Limits → EnvNo → ThreadNo → List Happening → List (Option Outcome)
told limits env thread events = told_from limits env thread events [] events

-- two runs with the same kept events give the same outcomes for them
abbrev pub TellsTheKept : Type 0
TellsTheKept =
    (limits : Limits) (env : EnvNo) (thread : ThreadNo) (run other : List Happening) →
    kept limits env thread run ≡ kept limits env thread other → told limits env thread run ≡ told limits env thread other
