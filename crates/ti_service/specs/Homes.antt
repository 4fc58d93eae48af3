-- Where an agent's desks are: at the threads of its own service.
use Rattle.std.specs.Prelude.{◌≡◌, ◌<◌, List, Some}
use Rattle.std.specs.List.{All}
use Rattle.ti_types.specs.declared.limits.Limits.{Limits}
use Rattle.ti_types.specs.declared.numbers.EnvNo.{EnvNo}
use Rattle.ti_roster.specs.declared.coming.Coming.{Coming}
use Rattle.ti_roster.specs.Roster.{IsOwn}
use Rattle.ti_roster.specs.Rows.{IsAt}
use Rattle.ti_agent.specs.Env.{Environment}
use Rattle.ti_agent.specs.FreeDesk.{FreeState}
use Rattle.ti_agent.specs.Spots.{Spot, spots_of}
use Rattle.ti_service.specs.Agent.{AgentState}
use Rattle.ti_service.specs.Service.{Member}

-- it is at the cell of the thread that came under its number
abbrev pub HasCome : List Coming → Spot → Type 0
HasCome seen spot = IsAt spot.thread spot.cell seen

-- What is true of an agent between calls. Its handle is in its environment's place, which is one of the service's. Both are
-- under the same limits. Each of the environment's desks is at the cell of a thread that came to the service under the desk's
-- number. So is each desk that waits, and nothing is left there of what environments did
pub record AreOursOf (service : Member) (env : Environment) (waits : List FreeState) : Type 0 where
  pub place : service.view.place ≡ Some env.env
  pub there : env.env.0 < service.view.limits.envs
  pub limits : env.state.limits ≡ service.view.limits
  pub homes : All (HasCome service.view.seen) (spots_of env.desks)
  pub waiting : All (IsOwn service.view.seen service.view.limits env.env) waits

abbrev pub AreOurs : AgentState → Type 0
AreOurs a = AreOursOf a.service a.env a.waiting

-- The same as two parts. A handle and desks that wait may be the home of an environment of this number, under these limits
abbrev pub IsHomeOf : Member → List FreeState → EnvNo → Limits → Type 0
IsHomeOf service waits e l = (service.view.place ≡ Some e) × (e.0 < service.view.limits.envs) × (l ≡ service.view.limits) × All (IsOwn service.view.seen service.view.limits e) waits
