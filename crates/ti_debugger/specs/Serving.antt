-- How a session is served: what it waits for is due until it is given, and what it is given is what the agent has at that moment.
use Rattle.std.specs.Prelude.{◌≡◌, ◌≤◌, ◌⊎◌, ℕ, List, [], ◌∷◌, map, Bool, true, false, Option, Some, None, Result, Ok, Err}
use Rattle.ti_jdwp.specs.declared.actions.Action.{Action}
use Rattle.ti_jdwp.specs.declared.actions.Action.TheVariants as action
use Rattle.ti_jdwp.specs.declared.actions.Posted.{Posted}
use Rattle.ti_jdwp.specs.declared.request.Request.{Request}
use Rattle.ti_jdwp.specs.SessionRuns.{Call, Step, Went, Failed, Replied, Listed, PostedAs, Settled, PlacedAs, LocatedAs}
use Rattle.ti_jdwp.specs.Talks.{Talk, data_of}
use Rattle.ti_debugger.specs.declared.asked.Asked.TheVariants.{Nothing}
use Rattle.ti_debugger.specs.declared.desk.Desk.{Desk}
use Rattle.ti_debugger.specs.declared.due.Due.{Due}
use Rattle.ti_debugger.specs.declared.due.Due.TheVariants as due
use Rattle.ti_debugger.specs.declared.effects.Effect.{Effect}
use Rattle.ti_debugger.specs.declared.seat.Seat.{Seat}
use Rattle.ti_debugger.specs.declared.stopping.Spot.{Spot}
use Rattle.ti_debugger.specs.Crowds.{alive_in, any_awaited}
use Rattle.ti_debugger.specs.Debuggers.{DebuggerValue}
use Rattle.ti_debugger.specs.Desks.{debugger_of}
use Rattle.ti_debugger.specs.Effects.{IsEffectOf, Takes}
use Rattle.ti_debugger.specs.Kept.{of_thread, without}
use Rattle.ti_debugger.specs.Placing.{IsPlacedAs, StandsAs}
use Rattle.ti_debugger.specs.Replies.{IsBodyOf}
use Rattle.ti_debugger.specs.Stopping.{once_let_go, stopped_in}
use Rattle.ti_debugger.specs.Suspending.{CallsThreads, Resumes, Settles, Suspends}

-- what is due once a session said this; what asks for nothing leaves what is due
abbrev pub due_by : Action → Option Due → Option Due
due_by (action.Ask request) d = Some (due.Answer request)
due_by action.ListThreads d = Some due.List
due_by (action.Suspend thread) d = Some (due.Post thread)
due_by action.Settle d = Some due.Settle
due_by (action.Resume thread) d = d
due_by (action.SetBreakpoint class method index) d = Some (due.Place (record { class = class; method = method; index = index }))
due_by (action.Locate thread) d = Some (due.Locate thread)
due_by (action.LetGo thread) d = d
due_by action.Again d = d
due_by action.Write d = d
due_by action.Close d = d
due_by action.Wait d = d

-- A body says what the service and the runtime answered. Once it is written, what it tells of texts and tables is counted, and those
-- that the debugger does not need any more are freed. An error leaves them as they are.
abbrev pub RepliesTo : Request → List ℕ → Result (List ℕ) ℕ → Desk → Desk → Desk → Type 0
RepliesTo request bytes (Ok body) old answered new = IsBodyOf request bytes old answered body × (e : Effect) × IsEffectOf request bytes answered e × Takes e answered new
RepliesTo request bytes (Err error) old answered new = new ≡ answered

-- the service is asked of its stops, and nothing else changes
abbrev pub CallsStops : Desk → Desk → Type 0
CallsStops old new = new ≡ record old { agent = new.agent; stops = new.stops }

-- A thread that stopped may go on. All others of which the session was told stay stopped, and nothing else changes.
pub record LetsGo (thread : ℕ) (old new : Desk) : Type 0 where
  pub rest : new ≡ record old { agent = new.agent; stops = record old.stops { halted = new.stops.halted }; resumptions = new.resumptions }
  pub stopped : stopped_in new.stops.halted.items ≡ stopped_in (map (once_let_go thread) old.stops.halted.items)
  pub grows : old.resumptions ≤ new.resumptions

-- What was told of a thread is freed, and nothing else changes.
pub record Forgets (thread : ℕ) (old new : Desk) : Type 0 where
  pub rest : new ≡ record old { objects = record old.objects { list = new.objects.list } }
  pub gone : of_thread thread new.objects.list.items ≡ []
  pub kept : new.objects.list.items ≡ without thread old.objects.list.items

-- A thread is let go of: what was told of it is freed, and then it is resumed.
pub record Releases (thread : ℕ) (old new : Desk) : Type 0 where
  pub freed : Desk
  pub forgets : Forgets thread old freed
  pub resumes : Resumes thread freed new
  pub calls : CallsThreads freed new

-- What a session asks to be done at once: a thread is resumed, or one that stopped goes on. What was told of a thread before it is
-- resumed, or before it is suspended anew, is freed.
abbrev pub Undertakes : Action → Desk → Desk → Type 0
Undertakes (action.Resume thread) old new = Releases thread old new
Undertakes (action.LetGo thread) old new = LetsGo thread old new
Undertakes (action.Ask request) old new = new ≡ old
Undertakes action.ListThreads old new = new ≡ old
Undertakes (action.Suspend thread) old new = Forgets thread old new
Undertakes action.Settle old new = new ≡ old
Undertakes (action.SetBreakpoint class method index) old new = new ≡ old
Undertakes (action.Locate thread) old new = new ≡ old
Undertakes action.Again old new = new ≡ old
Undertakes action.Write old new = new ≡ old
Undertakes action.Close old new = new ≡ old
Undertakes action.Wait old new = new ≡ old

-- a thread is suspended, or that is tried, and nothing else changes
abbrev pub Posts : ℕ → Option Posted → Desk → Desk → Type 0
Posts thread p old new = Suspends thread p old new × (new.agent.home ≡ old.agent.home) × (new ≡ record old { agent = new.agent; crowd = new.crowd })

-- what a session is given of what is due to it, as the agent has it, and nothing else changes
abbrev pub Gives : ℕ → Talk → Option Due → Desk → Call → Desk → Type 0
Gives now t d old (Replied a) new =
    (request : Request) × (answered : Desk) × (d ≡ Some (due.Answer request)) × RepliesTo request (data_of t.first t.bytes.input) a old answered new
    × (answered ≡ record old { agent = answered.agent; asked = answered.asked })
Gives now t d old (Listed threads) new = (d ≡ Some due.List) × (threads ≡ alive_in old.crowd.list.items) × (new ≡ old)
Gives now t d old (PostedAs posted) new = (thread : ℕ) × (d ≡ Some (due.Post thread)) × Posts thread (Some posted) old new
Gives now t d old Settled new = (d ≡ Some due.Settle) × (any_awaited new.crowd.list.items now ≡ false) × Settles old new
Gives now t d old (PlacedAs placed) new = (spot : Spot) × (d ≡ Some (due.Place spot)) × IsPlacedAs placed spot old.agent new.agent × CallsStops old new
Gives now t d old (LocatedAs standing) new = (thread : ℕ) × (d ≡ Some (due.Locate thread)) × StandsAs standing thread old.agent new.agent × CallsStops old new
Gives now t d old _ new = ⊥

-- A call of a session's agent, with what was due before and is after it: the session goes on if nothing is due, or is given what is
-- due. Then nothing is asked of the runtime any more.
abbrev pub Serves : ℕ → Talk → Option Due → Desk → Call → Option Due → Desk → Type 0
Serves now t d old (Went act) d' new = (d ≡ None) × (d' ≡ due_by act d) × Undertakes act old new
Serves now t d old Failed d' new = (d' ≡ d) × (new ≡ old)
Serves now t d old c d' new = (given : Desk) × Gives now t d old c given × (d' ≡ None) × (new ≡ record given { asked = Nothing })

-- Such calls, one right after the other. Between them the agent does nothing.
abbrev pub Path : ℕ → Talk → Option Due → Desk → List Call → Talk → Option Due → Desk → Type 0
Path now t d old [] t' d' new = (t ≡ t') × (d ≡ d') × (old ≡ new)
Path now t d old (c ∷ calls) t' d' new =
    (t₁ : Talk) × (d₁ : Option Due) × (next : Desk) × Step t c t₁ × Serves now t d old c d₁ next × Path now t₁ d₁ next calls t' d' new

abbrev pub Going : ℕ → Talk → Option Due → Desk → Talk → Option Due → Desk → Type 0
Going now t d old t' d' new = (calls : List Call) × Path now t d old calls t' d' new

-- what is left where something that is due was not given: it is not there yet, or there is no memory
abbrev pub Tries : Due → Desk → Desk → Type 0
Tries (due.Answer request) old new = new ≡ record old { agent = new.agent; asked = new.asked }
Tries due.List old new = new ≡ old
Tries (due.Post thread) old new = (p : Option Posted) × Posts thread p old new
Tries due.Settle old new = Settles old new
Tries (due.Place spot) old new = CallsStops old new
Tries (due.Locate thread) old new = CallsStops old new

abbrev pub Rests : Option Due → Desk → Desk → Type 0
Rests None old new = new ≡ old
Rests (Some x) old new = (new ≡ old) ⊎ Tries x old new

-- Such calls, and then what is due at the end may be tried without being given.
abbrev pub Serving : ℕ → Talk → Option Due → Desk → Talk → Option Due → Desk → Type 0
Serving now t d old t' d' new = (last : Desk) × Going now t d old t' d' last × Rests d' last new

-- what came of giving a session what is due; false, or an error: nothing was given
abbrev pub Given : {E : Type 0} → ℕ → Due → Talk → Desk → Talk → Desk → Result Bool E → Type 0
Given now x t old t' new (Ok true) = (c : Call) × Step t c t' × Gives now t (Some x) old c new
Given now x t old t' new (Ok false) = (t' ≡ t) × Tries x old new
Given now x t old t' new (Err e) = (t' ≡ t) × Tries x old new

-- what came of what is due: true if nothing is any more
abbrev pub Comes : {E : Type 0} → ℕ → Talk → Option Due → Desk → Talk → Option Due → Desk → Result Bool E → Type 0
Comes now t d old t' d' new (Ok true) = (d' ≡ None) × Going now t d old t' d' new
Comes now t d old t' d' new (Ok false) = (t' ≡ t) × (d' ≡ d) × Rests d old new
Comes now t d old t' d' new (Err e) = (t' ≡ t) × (d' ≡ d) × Rests d old new

-- the debugger that is connected is served at this time
abbrev pub IsServed : ℕ → DebuggerValue → DebuggerValue → Type 0
IsServed now old new =
    (seat : Seat) × (seat' : Seat) × (desk : Desk) × (desk' : Desk) × (old ≡ debugger_of (Some seat) desk) × (new ≡ debugger_of (Some seat') desk')
    × Serving now seat.session seat.due desk seat'.session seat'.due desk'
