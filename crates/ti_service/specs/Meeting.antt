-- A meeting.
use Rattle.std.specs.Prelude.{ℕ, zero, suc, ◌≡◌, ◌≢◌, ◌<◌, ◌≤◌, ◌++◌, ◌||◌, Bool, true, false, List, [], length, Some, reverse}
use Rattle.std.specs.List.{fold}
use Rattle.ti_types.specs.declared.error.TiError.{TiError}
use Rattle.ti_types.specs.declared.error.TiError.TheVariants.{Busy, Full}
use Rattle.ti_types.specs.declared.numbers.EnvNo.{EnvNo}
use Rattle.ti_agent.specs.Desks.{with_desk}
use Rattle.ti_agent.specs.FreeDesk.{FreeState}
use Rattle.ti_roster.specs.declared.coming.Coming.{Coming}
use Rattle.ti_roster.specs.Log.{live, threads_in}
use Rattle.ti_roster.specs.Roster.{meeting, room_refusal}
use Rattle.ti_roster.specs.Rows.{AreLeft}
use Rattle.ti_service.specs.Agent.{AgentState, IsSameBut, IsWhyNot, knowing}
use Rattle.ti_service.specs.LettingGo.{LetsGoBelow, LetsGoOfSome}
use Rattle.ti_service.specs.Service.{Holds, Looks, TellsNews, roster_seen}

-- an agent that has not ended its meeting
abbrev pub at_meeting : AgentState → AgentState
at_meeting a = record { service = a.service; env = a.env; waiting = a.waiting; events = a.events; unmet = true }

-- An agent that has: the environment knows that the numbers below this one were threads
abbrev pub after_meeting : AgentState → ℕ → AgentState
after_meeting a next = record { service = a.service; env = knowing a.env next; waiting = a.waiting; events = a.events; unmet = false }

-- The environment now has the first of the desks that waited, behind those that it had. The others wait, and nothing else has changed
pub record Adds (old new : AgentState) : Type 0 where
  pub added : List FreeState
  pub all : reverse old.waiting ≡ added ++ reverse new.waiting
  pub env : new.env ≡ fold with_desk old.env added
  pub service : new.service ≡ old.service
  pub events : new.events ≡ old.events
  pub unmet : new.unmet ≡ old.unmet

-- there is no room for the next desk that waits
abbrev pub HasNoRoom : AgentState → AgentState → Type 0
HasNoRoom old full = Adds old full × IsWhyNot full Full

-- Desks were added until there was no room for the next one. Then the environment let go of each thread that was given back and at
-- which no call of its own was out, and there was one. The same so many times
abbrev pub MakesRoomTimes : ℕ → AgentState → AgentState → Type 0
MakesRoomTimes zero old new = new ≡ old
MakesRoomTimes (suc n) old new =
    (full : AgentState) × (mid : AgentState) × HasNoRoom old full × LetsGoBelow (length full.env.desks) full mid × (length mid.env.desks < length full.env.desks) × MakesRoomTimes n mid new

abbrev pub MakesRoom : AgentState → AgentState → Type 0
MakesRoom old new = (n : ℕ) × MakesRoomTimes n old new

-- all desks that waited were added
pub record AddsAll (old new : AgentState) : Type 0 where
  pub mid : AgentState
  pub room : MakesRoom old mid
  pub adds : Adds mid new
  pub none_waits : new.waiting ≡ []

-- Why one was not added, and what that left. It was refused for another reason than room. Or there was no room: at each thread of
-- the environment a call is out, or the thread is there
pub data AddsNot (old new : AgentState) (e : TiError) : Type 0 where
  Refused : (mid : AgentState) → MakesRoom old mid → Adds mid new → IsWhyNot new e → e ≢ Full → AddsNot old new e
  NoRoom : (mid full : AgentState) → MakesRoom old mid → HasNoRoom mid full → LetsGoBelow (length full.env.desks) full new → length full.env.desks ≤ length new.env.desks → e ≡ Full → AddsNot old new e

-- the roster was in use, while threads were let go of
pub record StopsAmid (old new : AgentState) : Type 0 where
  pub mid : AgentState
  pub room : MakesRoom old mid
  pub full : AgentState
  pub no_room : HasNoRoom mid full
  pub goes : LetsGoOfSome full new

-- One hold of the roster, in which the environment took its desks at the threads that came since it last did, and are there. They
-- wait. So many threads came in all
pub record Takes (old new : AgentState) (next : ℕ) : Type 0 where
  pub env : EnvNo
  pub place : old.service.view.place ≡ Some env
  pub cell : new.service.cell ≡ old.service.cell
  pub found : List Coming
  pub hold : Holds old.service.view new.service.view found (meeting env found)
  pub taken : List FreeState
  pub left : AreLeft found old.service.view.limits env (live found) taken
  pub next_is : next ≡ threads_in found
  pub env_is : new.env ≡ old.env
  pub waiting : new.waiting ≡ reverse taken
  pub events : new.events ≡ old.events
  pub unmet : new.unmet ≡ old.unmet

-- one hold in which no desk was taken, and why
pub record TakesNone (old new : AgentState) (e : TiError) : Type 0 where
  pub looks : Looks old.service.view new.service.view
  pub same : IsSameBut old new
  pub why : e ≡ room_refusal (roster_seen new.service.view)

-- A meeting: the desks that waited were added, the new ones were taken, and all of them were added
pub record Meets (old new : AgentState) : Type 0 where
  pub first : AgentState
  pub adds : AddsAll (at_meeting old) first
  pub taken : AgentState
  pub next : ℕ
  pub takes : Takes first taken next
  pub last : AgentState
  pub adds_taken : AddsAll taken last
  pub new_is : new ≡ after_meeting last next

-- Why a meeting failed, and what it left. A desk that waited was not added; no desk was taken; or one that was taken was not added
pub data Keeps (old new : AgentState) (e : TiError) : Type 0 where
  NotAdded : AddsNot (at_meeting old) new e → Keeps old new e
  TookNone : (first : AgentState) → AddsAll (at_meeting old) first → TakesNone first new e → Keeps old new e
  TookSome : (first taken : AgentState) → (next : ℕ) → AddsAll (at_meeting old) first → Takes first taken next → AddsNot taken new e → Keeps old new e

-- the same for a meeting that does not wait: the roster may be in use, too
pub data KeepsNow (old new : AgentState) (e : TiError) : Type 0 where
  Failed : Keeps old new e → KeepsNow old new e
  BusyAtFirst : e ≡ Busy → StopsAmid (at_meeting old) new → KeepsNow old new e
  BusyThen : e ≡ Busy → AddsAll (at_meeting old) new → KeepsNow old new e
  BusyAtLast : e ≡ Busy → (first taken : AgentState) → (next : ℕ) → AddsAll (at_meeting old) first → Takes first taken next → StopsAmid taken new → KeepsNow old new e

-- whether an agent has news: its handle has, by one look, or its last meeting failed
pub record TellsAgentNews (old new : AgentState) (news : Bool) : Type 0 where
  pub rest : IsSameBut old new
  pub looked : Bool
  pub tells : TellsNews old.service new.service looked
  pub news_is : news ≡ (looked || old.unmet)
