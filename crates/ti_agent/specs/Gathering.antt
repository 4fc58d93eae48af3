-- A trace of several threads that is made step by step. A list of threads is one of their places, if nothing else is said.
use Rattle.std.specs.Prelude.{ℕ, ℤ, ◌≡◌, ◌⊎◌, ◌+◌, ◌<◌, ◌≤◌, ◌==◌, nat_lt, Bool, true, false, if◌then◌else◌, List, [], ◌∷◌, length, take, drop, Some, slice_get, slice_set}
use Rattle.std.specs.List.{filter}
use Rattle.ti_types.specs.declared.entry.Entry.TheVariants.{Stop, Go}
use Rattle.ti_types.specs.declared.error.TiError.{TiError}
use Rattle.ti_types.specs.declared.error.TiError.TheVariants.{AlreadyStopped, Busy, StillRunning}
use Rattle.ti_types.specs.declared.numbers.ThreadNo.{ThreadNo}
use Rattle.ti_types.specs.declared.stack.StackInfo.{StackInfo}
use Rattle.ti_types.specs.Frames as buffer
use Rattle.ti_types.specs.Numbers.{is_not_negative}
use Rattle.ti_replay.specs.Standing.{is_standing}
use Rattle.ti_handshake.specs.Desk.{DeskState, stop_refusal}
use Rattle.ti_vmop.specs.Turns.{Listed, are_paid, spend_all, AtEach, AllStand, HasAdded}
use Rattle.ti_vmop.specs.Tries.{AtFirst}
use Rattle.ti_agent.specs.Buffers.{AreRoomy}
use Rattle.ti_agent.specs.Env.{Environment, IsWhole, thread_at, threads_at}
use Rattle.ti_agent.specs.Traces.{each_once, are_there, is_alive, Stops, LetsGo, HasRead, AreStopped, AreLeft}
use Rattle.ti_agent.specs.declared.gathering.Phase.{Phase}
use Rattle.ti_agent.specs.declared.gathering.Phase.TheVariants as phase

-- The environment as it was at first, which only proofs read, and as it is now. Then what is asked: the threads to stop, each
-- with its reads, those to read, how many frames of each, and whether only those that are alive are told. Then the buffers
-- that are left, what was read, and how far it has come
pub record Gathered : Type 0 where
  pub began : List Environment
  pub now : Environment
  pub stopping : Listed
  pub places : List ThreadNo
  pub max_count : ℤ
  pub is_alive_only : Bool
  pub bufs : List buffer.Trace
  pub infos : List StackInfo
  pub phase : Phase

-- whether it was given up
abbrev pub is_given_up : Phase → Bool
is_given_up (phase.GivingUp stopped gone) = true
is_given_up _ = false

-- whether it has come to its end: all threads that it stopped are let go
abbrev pub is_over : ℕ → Phase → Bool
is_over count (phase.LettingGo gone) = gone == count
is_over count (phase.GivingUp stopped gone) = gone == stopped
is_over count _ = false

abbrev pub has_ended : Gathered → Bool
has_ended g = is_over (length g.stopping) g.phase

-- Each thread of a list was stopped once. Then each was read as often as it is in the list, in the list's order. Then all were
-- let go. The list is of places, and the threads have these numbers
pub record IsGathered (old new : Environment) (max_count : ℤ) (stopping : Listed) (places threads : List ThreadNo) (infos : List StackInfo) : Type 0 where
  pub stopped : Environment
  pub seen : Environment
  pub stops : Stops old stopped stopping
  pub reads : HasRead stopped seen max_count places threads infos
  pub goes : LetsGo seen new stopping

-- All threads that were asked for were traced, and this is what is told of them
pub record Gathers (g : Gathered) (new : Environment) (infos : List StackInfo) : Type 0 where
  pub start : Environment
  pub began_is : g.began ≡ start ∷ []
  pub all : List StackInfo
  pub gathered : IsGathered start new g.max_count g.stopping g.places (threads_at start.desks g.places) all
  pub told : infos ≡ (if g.is_alive_only then filter (λ x. is_alive x.state) all else all)

-- The first of a list were stopped, and let go. The others may have been looked at. Each of the first spent one call
pub record IsLetGo (old new : Environment) (stopping : Listed) : Type 0 where
  pub count : ℕ
  pub few : count ≤ length stopping
  pub stopped : List DeskState
  pub stops : AtFirst count stopping old.desks stopped (λ e. Stop e ∷ [])
  pub goes : AtEach (take count stopping) stopped new.desks (λ e. Go e ∷ [])
  pub env_is : new.env ≡ old.env
  pub state_is : new.state ≡ spend_all old.state (take count stopping)

-- it was given up, and what it had stopped was let go
pub record GivesUp (g : Gathered) (new : Environment) : Type 0 where
  pub start : Environment
  pub began_is : g.began ≡ start ∷ []
  pub let_go : IsLetGo start new g.stopping

-- what is asked of an environment
pub record IsAsked (s : Environment) (stopping : Listed) (places : List ThreadNo) (max_count : ℤ) : Type 0 where
  pub stopping_is : stopping ≡ each_once (length s.state.spent) places
  pub there : are_there (length s.state.spent) places ≡ true
  pub paid : are_paid s.state stopping ≡ true
  pub count : is_not_negative max_count ≡ true

-- the first n are stopped
pub record IsStopping (s : Environment) (g : Gathered) (n : ℕ) : Type 0 where
  pub few : n ≤ length g.stopping
  pub env_is : g.now.env ≡ s.env
  pub state_is : g.now.state ≡ spend_all s.state (take n g.stopping)
  pub desks : AtFirst n g.stopping s.desks g.now.desks (λ e. Stop e ∷ [])
  pub count : length g.bufs ≡ length g.places
  pub roomy : AreRoomy s.state.limits g.max_count g.bufs
  pub none_read : g.infos ≡ []

-- all are stopped, and the first n were seen standing
pub record IsSeeing (s : Environment) (g : Gathered) (n : ℕ) : Type 0 where
  pub few : n ≤ length g.stopping
  pub stopping : IsStopping s g (length g.stopping)
  pub stand : AllStand (take n g.stopping) g.now.desks

-- all were seen standing, and some are read
pub record IsReading (s : Environment) (g : Gathered) : Type 0 where
  pub stopped : Environment
  pub stops : Stops s stopped g.stopping
  pub held : AreStopped g.now g.stopping
  pub left : AreLeft g.now.state (drop (length g.infos) g.places)
  pub limits : g.now.state.limits ≡ s.state.limits
  pub reads : HasRead stopped g.now g.max_count (take (length g.infos) g.places) (threads_at s.desks (take (length g.infos) g.places)) g.infos
  pub many : length g.now.desks ≡ length s.desks
  pub names : (k : ℕ) → thread_at g.now.desks k ≡ thread_at s.desks k
  pub count : length g.bufs + length g.infos ≡ length g.places
  pub roomy : AreRoomy s.state.limits g.max_count g.bufs

-- all were read, and the first n are let go
pub record IsLettingGo (s : Environment) (g : Gathered) (n : ℕ) : Type 0 where
  pub few : n ≤ length g.stopping
  pub stopped : Environment
  pub seen : Environment
  pub stops : Stops s stopped g.stopping
  pub held : AreStopped seen g.stopping
  pub reads : HasRead stopped seen g.max_count g.places (threads_at s.desks g.places) g.infos
  pub many : length seen.desks ≡ length s.desks
  pub env_is : g.now.env ≡ seen.env
  pub state_is : g.now.state ≡ seen.state
  pub desks : AtEach (take n g.stopping) seen.desks g.now.desks (λ e. Go e ∷ [])

-- the first k were stopped, and the first n of them are let go
pub record IsGivingUp (s : Environment) (g : Gathered) (k n : ℕ) : Type 0 where
  pub few : (k ≤ length g.stopping) × (n ≤ k)
  pub stopped : List DeskState
  pub stops : AtFirst k g.stopping s.desks stopped (λ e. Stop e ∷ [])
  pub env_is : g.now.env ≡ s.env
  pub state_is : g.now.state ≡ spend_all s.state (take k g.stopping)
  pub desks : AtEach (take n (take k g.stopping)) stopped g.now.desks (λ e. Go e ∷ [])

abbrev pub IsAt : Phase → Environment → Gathered → Type 0
IsAt (phase.Stopping n) s g = IsStopping s g n
IsAt (phase.Seeing n) s g = IsSeeing s g n
IsAt phase.Reading s g = IsReading s g
IsAt (phase.LettingGo n) s g = IsLettingGo s g n
IsAt (phase.GivingUp k n) s g = IsGivingUp s g k n

-- what is true of it between its steps
pub record IsAtWork (g : Gathered) : Type 0 where
  pub start : Environment
  pub began_is : g.began ≡ start ∷ []
  pub whole : IsWhole start
  pub asked : IsAsked start g.stopping g.places g.max_count
  pub at : IsAt g.phase start g

-- a step changes neither what is asked nor whose trace it is
abbrev pub IsSameWork : Gathered → Gathered → Type 0
IsSameWork old new =
    (new.began ≡ old.began) × (new.stopping ≡ old.stopping) × (new.places ≡ old.places) × (new.max_count ≡ old.max_count) × (new.is_alive_only ≡ old.is_alive_only)

-- how far it has come, if it is given up now
abbrev pub phase_given_up : ℕ → Phase → Phase
phase_given_up count (phase.Stopping n) = phase.GivingUp n 0
phase_given_up count (phase.Seeing n) = phase.GivingUp count 0
phase_given_up count p = p

-- the same trace, given up if it can be
abbrev pub given_up : Gathered → Gathered
given_up g = record { began = g.began; now = g.now; stopping = g.stopping; places = g.places; max_count = g.max_count; is_alive_only = g.is_alive_only; bufs = g.bufs; infos = g.infos; phase = phase_given_up (length g.stopping) g.phase }

-- a trace that has just begun: nothing is stopped yet
pub record Begins (s : Environment) (g : Gathered) (stopping : Listed) (places : List ThreadNo) (max_count : ℤ) (is_alive_only : Bool) : Type 0 where
  pub began_is : g.began ≡ s ∷ []
  pub now_is : g.now ≡ s
  pub stopping_is : g.stopping ≡ stopping
  pub places_are : g.places ≡ places
  pub max_count_is : g.max_count ≡ max_count
  pub only : g.is_alive_only ≡ is_alive_only
  pub none_read : g.infos ≡ []
  pub phase_is : g.phase ≡ phase.Stopping 0

-- there is a thread at which the next step does something
abbrev pub HasNextAt : Phase → Gathered → Type 0
HasNextAt (phase.Stopping n) g = n < length g.stopping
HasNextAt (phase.Seeing n) g = n < length g.stopping
HasNextAt phase.Reading g = length g.infos < length g.places
HasNextAt (phase.LettingGo n) g = n < length g.stopping
HasNextAt (phase.GivingUp k n) g = n < k

-- the next thread's cell was in use, and nothing changed
abbrev pub IsInUse : Gathered → Gathered → TiError → Type 0
IsInUse old new e = (e ≡ Busy) × HasNextAt old.phase old × (new ≡ old)

-- the same trace, with another desk at a place
abbrev pub with_desk_at : Gathered → ℕ → DeskState → Gathered
with_desk_at g i q = record g { now = record { env = g.now.env; state = g.now.state; desks = slice_set g.now.desks i q } }

-- The desk of the next thread to stop looked at the thread, and saw this of it. It added nothing, and nothing else changed
pub record LooksAt (n : ℕ) (old new : Gathered) (Saw : DeskState → DeskState → Type 0) : Type 0 where
  pub thread : ThreadNo × ℕ
  pub next : slice_get old.stopping n ≡ Some thread
  pub before : DeskState
  pub there : slice_get old.now.desks thread.0.0 ≡ Some before
  pub after : DeskState
  pub looked : HasAdded before after []
  pub saw : Saw before after
  pub new_is : new ≡ with_desk_at old thread.0.0 after

-- a stop is in force at the thread as the desk found it
abbrev pub SawStopped : DeskState → DeskState → Type 0
SawStopped p q = stop_refusal p q ≡ Some AlreadyStopped

-- the thread runs, as far as the desk saw
abbrev pub SawRunning : DeskState → DeskState → Type 0
SawRunning p q = is_standing q.view.subject.limits q.view.seen q.env ≡ false

-- why a step was barred, and what it left
abbrev pub IsBarredAt : Phase → Gathered → Gathered → TiError → Type 0
IsBarredAt (phase.Stopping n) old new e = IsInUse old new e ⊎ ((e ≡ AlreadyStopped) × LooksAt n old new SawStopped)
IsBarredAt (phase.Seeing n) old new e = IsInUse old new e ⊎ ((e ≡ StillRunning) × LooksAt n old new SawRunning)
IsBarredAt _ old new e = IsInUse old new e

abbrev pub IsBarred : Gathered → Gathered → TiError → Type 0
IsBarred old new e = IsBarredAt old.phase old new e

-- what a step did that was not barred, when so many threads are to be stopped
abbrev pub GoesOnFrom : ℕ → Phase → Gathered → Gathered → Type 0
GoesOnFrom count (phase.Stopping n) old new = new.phase ≡ (if nat_lt n count then phase.Stopping (n + 1) else phase.Seeing 0)
GoesOnFrom count (phase.Seeing n) old new = new.phase ≡ (if nat_lt n count then phase.Seeing (n + 1) else phase.Reading)
GoesOnFrom count phase.Reading old new =
    (new.phase ≡ (if nat_lt (length old.infos) (length old.places) then phase.Reading else phase.LettingGo 0))
    × (length new.infos ≡ (if nat_lt (length old.infos) (length old.places) then length old.infos + 1 else length old.infos))
GoesOnFrom count (phase.LettingGo n) old new = new.phase ≡ (if nat_lt n count then phase.LettingGo (n + 1) else phase.LettingGo n)
GoesOnFrom count (phase.GivingUp k n) old new = new.phase ≡ (if nat_lt n k then phase.GivingUp k (n + 1) else phase.GivingUp k n)

abbrev pub GoesOn : Gathered → Gathered → Type 0
GoesOn old new = GoesOnFrom (length old.stopping) old.phase old new
