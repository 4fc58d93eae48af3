-- The stops as a whole, and what each call makes of them.
use Rattle.std.specs.Prelude.{ℕ, ◌≡◌, ◌⊎◌, ◌&&◌, ◌||◌, not, Bool, true, false, if◌then◌else◌, List, [], ◌∷◌, ◌++◌, map, filter, Option, Some, None, Result, Ok, Err, IfOk, IfErr}
use Rattle.std.specs.List.{list_any}
use Rattle.ti_types.specs.declared.numbers.EnvNo.{EnvNo}
use Rattle.ti_types.specs.declared.numbers.MethodNo.{MethodNo}
use Rattle.ti_types.specs.declared.numbers.ThreadNo.{ThreadNo}
use Rattle.ti_types.specs.declared.place.Frame.{Frame}
use Rattle.ti_stops.specs.declared.call.StopCall.{StopCall}
use Rattle.ti_stops.specs.declared.call.StopCall.TheVariants.{Enable, Disable, SetBreakpoint, ClearBreakpoint, NotifyFramePop, Next, LetGo, Reached, Leaves, IsStopped, MayStopIn}
use Rattle.ti_stops.specs.declared.call.StopReply.{StopReply}
use Rattle.ti_stops.specs.declared.call.StopReply.TheVariants.{Done, Stops, Told, Waits}
use Rattle.ti_stops.specs.declared.error.StopError.{StopError}
use Rattle.ti_stops.specs.declared.error.StopError.TheVariants.{ThreadNotSuspended, Duplicate, NotFound, OutOfMemory, InvalidEnvironment}
use Rattle.ti_stops.specs.declared.kind.StopKind.{StopKind}
use Rattle.ti_stops.specs.declared.kind.StopKind.TheVariants as kind
use Rattle.ti_stops.specs.declared.lists.Breakpoint.{Breakpoint}
use Rattle.ti_stops.specs.declared.lists.Mode.{Mode}
use Rattle.ti_stops.specs.declared.lists.Pop.{Pop}
use Rattle.ti_stops.specs.declared.lists.Waiting.{Waiting}
use Rattle.ti_stops.specs.declared.stop.Stop.{Stop}
use Rattle.ti_stops.specs.Lists.{is_env, is_mode, is_heard, is_mode_at, is_mode_of, is_breakpoint, is_breakpoint_in, is_breakpoint_of, is_pop, is_left, is_popped, is_own_pop_at, is_pop_at, is_pop_of, waits_at, waits_for, is_told_at, next_stop, next_told}

pub record StopsNow : Type 0 where
  -- the environments that enabled something, each once, in the order in which they first did
  pub envs : List EnvNo
  pub modes : List Mode
  pub breakpoints : List Breakpoint
  pub pops : List Pop
  -- who waits for whom, the longest first
  pub waiting : List Waiting

abbrev pub no_stops : StopsNow
no_stops = record { envs = []; modes = []; breakpoints = []; pops = []; waiting = [] }

abbrev pub is_any : List Mode → Bool
is_any [] = false
is_any (m ∷ ms) = true

-- whether an environment hears of anything
abbrev pub is_watched : StopsNow → Bool
is_watched s = is_any s.modes

-- whether an environment hears of a kind of event at a thread
abbrev pub hears : StopsNow → EnvNo → StopKind → ThreadNo → Bool
hears s e kind t = list_any (is_heard e kind t) s.modes

abbrev pub has_breakpoint : StopsNow → EnvNo → Frame → Bool
has_breakpoint s e at = list_any (is_breakpoint e at) s.breakpoints

-- whether an environment asked exactly for this pop
abbrev pub has_pop : StopsNow → EnvNo → ThreadNo → ℕ → Bool
has_pop s e t n = list_any (is_pop e t n) s.pops

-- whether an environment asked for the pop of the newest frame of a thread that has so many, or of one above it
abbrev pub has_popped : StopsNow → EnvNo → ThreadNo → ℕ → Bool
has_popped s e t n = list_any (is_popped e t n) s.pops

-- The stop for an environment of a thread that reached a place
abbrev pub reached_by : StopsNow → ThreadNo → Frame → EnvNo → Stop
reached_by s t at e = record { thread = t; at = at; breakpoint = has_breakpoint s e at && hears s e kind.Breakpoint t; single_step = hears s e kind.SingleStep t; frame_pop = false }

-- The stop for an environment of a thread that is about to leave its newest frame there, and has so many frames
abbrev pub left_by : StopsNow → ThreadNo → Frame → ℕ → EnvNo → Stop
left_by s t at n e = record { thread = t; at = at; breakpoint = false; single_step = false; frame_pop = has_popped s e t n && hears s e kind.FramePop t }

-- whether there is a reason for it
abbrev pub is_stop : Stop → Bool
is_stop x = x.breakpoint || x.single_step || x.frame_pop

-- the environments for which a thread stops wait to be told
abbrev pub waits_by : (EnvNo → Stop) → List EnvNo → List Waiting
waits_by f envs = map (λ e. record { env = e; stop = f e; told = false }) (filter (λ e. is_stop (f e)) envs)

-- whether a thread stops for one of these environments
abbrev pub stops_for : (EnvNo → Stop) → List EnvNo → Bool
stops_for f envs = list_any (λ e. is_stop (f e)) envs

-- whether a thread may have to stop for an environment in one of so many methods, from this one on
abbrev pub may_stop_by : StopsNow → ThreadNo → MethodNo → ℕ → EnvNo → Bool
may_stop_by s t m n e =
    (list_any (is_breakpoint_in e m n) s.breakpoints && hears s e kind.Breakpoint t)
    || hears s e kind.SingleStep t
    || (list_any (is_own_pop_at e t) s.pops && hears s e kind.FramePop t)

abbrev pub may_stop_in : StopsNow → ThreadNo → MethodNo → ℕ → Bool
may_stop_in s t m n = list_any (may_stop_by s t m n) s.envs

-- whether the call changed something
abbrev pub is_news : StopReply → Bool
is_news Done = true
is_news (Stops b) = b
is_news (Told (Some x)) = true
is_news (Told None) = false
is_news (Waits b) = false

-- what only an environment may call
abbrev pub by_env : Option EnvNo → (EnvNo → Result StopReply StopError) → Result StopReply StopError
by_env None f = Err InvalidEnvironment
by_env (Some e) f = f e

-- What a call by an environment, or by a runtime, gives, if there is memory
abbrev pub outcome : StopsNow → Option EnvNo → StopCall → Result StopReply StopError
outcome s o (Enable k t) = by_env o (λ e. Ok Done)
outcome s o (Disable k t) = by_env o (λ e. Ok Done)
outcome s o (SetBreakpoint at) = by_env o (λ e. if has_breakpoint s e at then Err Duplicate else Ok Done)
outcome s o (ClearBreakpoint at) = by_env o (λ e. if has_breakpoint s e at then Ok Done else Err NotFound)
outcome s o (NotifyFramePop t n) = by_env o (λ e. if has_pop s e t n then Err Duplicate else Ok Done)
outcome s o Next = by_env o (λ e. Ok (Told (next_stop e s.waiting)))
outcome s o (LetGo t) = by_env o (λ e. if list_any (is_told_at e t) s.waiting then Ok Done else Err ThreadNotSuspended)
outcome s o (Reached t at) = Ok (Stops (stops_for (reached_by s t at) s.envs))
outcome s o (Leaves t at n) = Ok (Stops (stops_for (left_by s t at n) s.envs))
outcome s o (IsStopped t) = Ok (Waits (list_any (waits_at t) s.waiting))
outcome s o (MayStopIn t m n) = Ok (Waits (may_stop_in s t m n))

-- an environment is among these from now on
abbrev pub with_env : EnvNo → List EnvNo → List EnvNo
with_env e envs = if list_any (is_env e) envs then envs else envs ++ e ∷ []

abbrev pub with_mode : StopsNow → EnvNo → StopKind → Option ThreadNo → StopsNow
with_mode s e k t = record s { envs = with_env e s.envs; modes = filter (λ m. not (is_mode e k t m)) s.modes ++ record { env = e; kind = k; thread = t } ∷ [] }

abbrev pub without_mode : StopsNow → EnvNo → StopKind → Option ThreadNo → StopsNow
without_mode s e k t = record s { modes = filter (λ m. not (is_mode e k t m)) s.modes }

abbrev pub with_breakpoint : StopsNow → EnvNo → Frame → StopsNow
with_breakpoint s e at = record s { breakpoints = s.breakpoints ++ record { env = e; at = at } ∷ [] }

abbrev pub without_breakpoint : StopsNow → EnvNo → Frame → StopsNow
without_breakpoint s e at = record s { breakpoints = filter (λ b. not (is_breakpoint e at b)) s.breakpoints }

abbrev pub with_pop : StopsNow → EnvNo → ThreadNo → ℕ → StopsNow
with_pop s e t n = record s { pops = s.pops ++ record { env = e; thread = t; frames = n } ∷ [] }

abbrev pub with_next_told : StopsNow → EnvNo → StopsNow
with_next_told s e = record s { waiting = next_told e s.waiting }

abbrev pub let_go : StopsNow → EnvNo → ThreadNo → StopsNow
let_go s e t = record s { waiting = filter (λ w. not (is_told_at e t w)) s.waiting }

abbrev pub with_reached : StopsNow → ThreadNo → Frame → StopsNow
with_reached s t at = record s { waiting = s.waiting ++ waits_by (reached_by s t at) s.envs }

-- whether the environment of a pop is told of it when a thread that has so many frames leaves its newest
abbrev pub is_due : StopsNow → ThreadNo → ℕ → Pop → Bool
is_due s t n p = is_left t n p && (hears s p.env kind.FramePop t && list_any (is_env p.env) s.envs)

-- a request ends when its environment is told, and not when another one is
abbrev pub with_left : StopsNow → ThreadNo → Frame → ℕ → StopsNow
with_left s t at n = record s { pops = filter (λ p. not (is_due s t n p)) s.pops; waiting = s.waiting ++ waits_by (left_by s t at n) s.envs }

-- what only an environment changes
abbrev pub after_env : Option EnvNo → StopsNow → (EnvNo → StopsNow) → StopsNow
after_env None s f = s
after_env (Some e) s f = f e

-- The stops once a call with news took place
abbrev pub after : StopsNow → Option EnvNo → StopCall → StopsNow
after s o (Enable k t) = after_env o s (λ e. with_mode s e k t)
after s o (Disable k t) = after_env o s (λ e. without_mode s e k t)
after s o (SetBreakpoint at) = after_env o s (λ e. with_breakpoint s e at)
after s o (ClearBreakpoint at) = after_env o s (λ e. without_breakpoint s e at)
after s o (NotifyFramePop t n) = after_env o s (λ e. with_pop s e t n)
after s o Next = after_env o s (λ e. with_next_told s e)
after s o (LetGo t) = after_env o s (λ e. let_go s e t)
after s o (Reached t at) = with_reached s t at
after s o (Leaves t at n) = with_left s t at n
after s o (IsStopped t) = s
after s o (MayStopIn t m n) = s

-- whether a call needs memory for what it changes. `Disable`, `ClearBreakpoint`, `Next`, `LetGo`, `IsStopped` and `MayStopIn` need none
abbrev pub takes_memory : StopCall → Bool
takes_memory (Enable k t) = true
takes_memory (Disable k t) = false
takes_memory (SetBreakpoint at) = true
takes_memory (ClearBreakpoint at) = false
takes_memory (NotifyFramePop t n) = true
takes_memory Next = false
takes_memory (LetGo t) = false
takes_memory (Reached t at) = true
takes_memory (Leaves t at n) = true
takes_memory (IsStopped t) = false
takes_memory (MayStopIn t m n) = false

-- whether the call is answered with news
abbrev pub has_news : Result StopReply StopError → Bool
has_news (Ok r) = is_news r
has_news (Err e) = false

-- the call would change something and needs memory for it, and there is none
abbrev pub LacksMemory : StopsNow → Option EnvNo → StopCall → StopError → Type 0
LacksMemory s o call e = (e ≡ OutOfMemory) × ((takes_memory call && has_news (outcome s o call)) ≡ true)

-- a call is answered, and only news changes the stops; or it is refused, and changes nothing
abbrev pub Obeys : StopsNow → StopsNow → Option EnvNo → StopCall → Result StopReply StopError → Type 0
Obeys s t o call result =
    IfOk result (λ r. (outcome s o call ≡ Ok r) × (t ≡ (if is_news r then after s o call else s)))
    × IfErr result (λ e. (LacksMemory s o call e ⊎ (outcome s o call ≡ Err e)) × (t ≡ s))

-- the stops without an environment, which is disposed of
abbrev pub without_env : StopsNow → EnvNo → StopsNow
without_env s e = record {
  envs = filter (λ f. not (is_env e f)) s.envs;
  modes = filter (λ m. not (is_mode_of e m)) s.modes;
  breakpoints = filter (λ b. not (is_breakpoint_of e b)) s.breakpoints;
  pops = filter (λ p. not (is_pop_of e p)) s.pops;
  waiting = filter (λ w. not (waits_for e w)) s.waiting;
}

-- the stops without a thread, which has ended
abbrev pub without_thread : StopsNow → ThreadNo → StopsNow
without_thread s t = record {
  envs = s.envs;
  modes = filter (λ m. not (is_mode_at t m)) s.modes;
  breakpoints = s.breakpoints;
  pops = filter (λ p. not (is_pop_at t p)) s.pops;
  waiting = filter (λ w. not (waits_at t w)) s.waiting;
}
