-- An agent that leaves the service.
use Rattle.std.specs.Prelude.{◌≡◌, ◌⊎◌, ◌+◌, ◌<◌, ◌≤◌, ◌++◌, Bool, true, false, length, List, [], ◌∷◌, slice_index}
use Rattle.std.specs.List.{list_any}
use Rattle.ti_types.specs.declared.entry.Entry.{Entry}
use Rattle.ti_types.specs.declared.entry.Entry.TheVariants.{End}
use Rattle.ti_types.specs.declared.error.TiError.{TiError}
use Rattle.ti_types.specs.declared.error.TiError.TheVariants.{Busy, Full, OutOfMemory}
use Rattle.ti_types.specs.declared.limits.Limits.{Limits}
use Rattle.ti_types.specs.declared.numbers.EnvNo.{EnvNo}
use Rattle.ti_replay.specs.Legal.{is_legal}
use Rattle.ti_replay.specs.Makers.{made_by}
use Rattle.ti_replay.specs.View.{view}
use Rattle.ti_agent.specs.FreeDesk.{word_asked}
use Rattle.ti_types.specs.declared.numbers.ThreadNo.{ThreadNo}
use Rattle.ti_agent.specs.Desks.{IsCleared}
use Rattle.ti_agent.specs.Env.{Environment}
use Rattle.ti_agent.specs.FreeDesk.{FreeState}
use Rattle.ti_agent.specs.Quiesced.{MayQuiesce}
use Rattle.ti_roster.specs.Roster.{most_items}
use Rattle.ti_service.specs.Agent.{AgentState}
use Rattle.ti_service.specs.Service.{Leaves, Looks, Member}

-- at one thread after another, the environment's calls are cancelled, and those that were answered are out no more
abbrev pub QuiescesEach : List ThreadNo → Environment → Environment → Type 0
QuiescesEach [] old new = new ≡ old
QuiescesEach (t ∷ threads) old new = (mid : Environment) × MayQuiesce old mid t × QuiescesEach threads mid new

abbrev pub Quiets : Environment → Environment → Type 0
Quiets old new = (threads : List ThreadNo) × QuiescesEach threads old new

-- One desk after another left the environment, and nothing is left there of what it did. If it could suspend threads or pop frames,
-- none of its calls is out there (`IsCleared`)
abbrev pub ClearsEach : Environment → Environment → List FreeState → Type 0
ClearsEach old new [] = Quiets old new
ClearsEach old new (f ∷ desks) = (quiet : Environment) × Quiets old quiet × (t : ThreadNo) × (mid : Environment) × IsCleared quiet mid t f × ClearsEach mid new desks

-- these desks of the environment are cleared, and wait behind those that waited
pub record Clears (old new : AgentState) : Type 0 where
  pub cleared : List FreeState
  pub each : ClearsEach old.env new.env cleared
  pub waiting : new.waiting ≡ old.waiting ++ cleared

-- Each desk of the environment was cleared. They and those that waited went back to their threads, and the environment's
-- place is free. The handle is left
pub record Disposes (a : AgentState) (s : Member) : Type 0 where
  pub last : AgentState
  pub clears : Clears a last
  pub all : last.env.desks ≡ []
  pub cell : s.cell ≡ a.service.cell
  pub leaves : Leaves a.service.view s.view last.waiting

-- It was not disposed of. A call of its own is out at a thread, what it needed was in use, or there was no memory to note the calls
-- that are cancelled: then it has all its desks. Or some desks were cleared. Or nothing more could happen to the roster
pub data StaysOn (old new : AgentState) (e : TiError) : Type 0 where
  NotQuiet : (e ≡ OutOfMemory) ⊎ (e ≡ Busy) → new.service ≡ old.service → new.waiting ≡ old.waiting → Quiets old.env new.env → StaysOn old new e
  NotCleared : (e ≡ OutOfMemory) ⊎ (e ≡ Busy) → new.service ≡ old.service → Clears old new → StaysOn old new e
  NotLeft : e ≡ Full → most_items ≤ length new.service.view.seen + length new.waiting → new.service.cell ≡ old.service.cell → Looks old.service.view new.service.view → Clears old new → StaysOn old new e

abbrev pub is_end : Entry → Bool
is_end End = true
is_end _ = false

abbrev pub has_ended : List Entry → Bool
has_ended history = list_any is_end history

-- What a cleared word means. If an environment's seat asked last for the word 0, or for none, the word at the thread is 0, until
-- the thread ends
abbrev pub ClearedReadsZero : Type 0
ClearedReadsZero =
    (limits : Limits) (history : List Entry) (env : EnvNo) →
    is_legal limits history ≡ true → env.0 < limits.envs → has_ended history ≡ false → word_asked env (made_by (env.0 + 1) history) ≡ 0 → slice_index (view limits history).words env.0 ≡ 0
