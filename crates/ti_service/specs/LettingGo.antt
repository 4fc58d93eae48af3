-- An agent that lets go of threads that were given back.
use Rattle.std.specs.Prelude.{ℕ, zero, suc, ◌≡◌, ◌<◌, ◌≤◌, Bool, true, false, length, List, [], ◌∷◌}
use Rattle.ti_types.specs.declared.numbers.ThreadNo.{ThreadNo}
use Rattle.ti_agent.specs.Desks.{IsTaken}
use Rattle.ti_agent.specs.Env.{outstanding, place_in, thread_at}
use Rattle.ti_agent.specs.FreeDesk.{FreeState}
use Rattle.ti_roster.specs.Log.{is_live}
use Rattle.ti_service.specs.Agent.{AgentState, IsSameBut}
use Rattle.ti_service.specs.Service.{Looks}

-- What becomes of the desk at a thread. It stays if a call is out there, or the thread is there still. Otherwise it leaves the
-- environment, if it is one of its desks
pub data LetsGo (old new : AgentState) (t : ThreadNo) (gone : Bool) : Type 0 where
  CallsOut : gone ≡ false → 0 < outstanding old.env t → new ≡ old → LetsGo old new t gone
  StillThere : gone ≡ false → Looks old.service.view new.service.view → IsSameBut old new → is_live t new.service.view.seen ≡ true → LetsGo old new t gone
  NoDesk : gone ≡ false → Looks old.service.view new.service.view → IsSameBut old new → length old.env.desks ≤ place_in old.env.desks t → LetsGo old new t gone
  Gone : gone ≡ true → outstanding old.env t ≡ 0 → Looks old.service.view new.service.view → new.service.cell ≡ old.service.cell → new.waiting ≡ old.waiting → new.events ≡ old.events → new.unmet ≡ old.unmet → is_live t new.service.view.seen ≡ false
      → (f : FreeState) → IsTaken old.env new.env t f → LetsGo old new t gone

-- the same for the desks before an index, the last one first
abbrev pub LetsGoBelow : ℕ → AgentState → AgentState → Type 0
LetsGoBelow zero old new = new ≡ old
LetsGoBelow (suc n) old new = (mid : AgentState) × (gone : Bool) × LetsGo old mid (thread_at old.env.desks n) gone × LetsGoBelow n mid new

-- some threads, one after another
abbrev pub LetsGoOfEach : List ThreadNo → AgentState → AgentState → Type 0
LetsGoOfEach [] old new = new ≡ old
LetsGoOfEach (t ∷ threads) old new = (mid : AgentState) × (gone : Bool) × LetsGo old mid t gone × LetsGoOfEach threads mid new

abbrev pub LetsGoOfSome : AgentState → AgentState → Type 0
LetsGoOfSome old new = (threads : List ThreadNo) × LetsGoOfEach threads old new
