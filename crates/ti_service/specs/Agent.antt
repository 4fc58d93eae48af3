-- An agent, and what its calls say.
use Rattle.std.specs.Prelude.{Bool, ℕ, ◌≡◌, ◌++◌, List, [], ◌∷◌, Some, None, false, reverse}
use Rattle.ti_types.specs.declared.error.TiError.{TiError}
use Rattle.ti_types.specs.declared.error.TiError.TheVariants.{IllegalArgument, OutOfMemory}
use Rattle.ti_types.specs.Refusing.{or_else, unless}
use Rattle.ti_env.specs.Env.{env_at_no_thread, place_refusal, with_known}
use Rattle.ti_agent.specs.Desks.{is_new}
use Rattle.ti_agent.specs.Env.{Environment}
use Rattle.ti_agent.specs.FreeDesk.{FreeState}
use Rattle.ti_roster.specs.declared.coming.Coming.{Coming}
use Rattle.ti_roster.specs.declared.coming.Coming.TheVariants.{Attached}
use Rattle.ti_roster.specs.Log.{mark_of}
use Rattle.ti_roster.specs.Modes.{no_modes}
use Rattle.ti_roster.specs.Rule.{Begins}
use Rattle.ti_service.specs.declared.event.EventModes.{EventModes}
use Rattle.ti_service.specs.Service.{Member}

-- Its handle, its environment, and the desks that it has taken and not added, the last to be added first. Then which events it is
-- told, and whether its last meeting failed
pub record AgentState : Type 0 where
  pub service : Member
  pub env : Environment
  pub waiting : List FreeState
  pub events : EventModes
  pub unmet : Bool

-- nothing but what the handle knows of the roster has changed
abbrev pub IsSameBut : AgentState → AgentState → Type 0
IsSameBut old new = (new.service.cell ≡ old.service.cell) × (new.env ≡ old.env) × (new.waiting ≡ old.waiting) × (new.events ≡ old.events) × (new.unmet ≡ old.unmet)

-- An agent that was just attached. Its environment's number was nobody's, and it is at no thread yet. Its handle has held the
-- roster once, and has not looked
pub record IsNewAgent (s : Member) (a : AgentState) : Type 0 where
  pub found : List Coming
  pub begins : Begins found s.view.seen
  pub free : mark_of a.env.env found ≡ None
  pub cell : a.service.cell ≡ s.cell
  pub view : a.service.view ≡ record { limits = s.view.limits; seen = found ++ Attached a.env.env ∷ []; found = found; looked = []; taken = 1; made = 0; holds = false; place = Some a.env.env }
  pub state : a.env.state ≡ env_at_no_thread s.view.limits
  pub desks : a.env.desks ≡ []
  pub waiting : a.waiting ≡ []
  pub events : a.events ≡ record { life = no_modes; class = None }
  pub unmet : a.unmet ≡ false

-- Why the next desk that waits was not added: its number is not above those that the environment knows, the environment has a
-- desk at 65,536 threads, or there is no memory
abbrev pub IsWhyNotOf : Environment → List FreeState → TiError → Type 0
IsWhyNotOf s [] e = ⊥
IsWhyNotOf s (f ∷ rest) e = Some e ≡ or_else (or_else (unless (is_new s f.desk.view.subject.thread) IllegalArgument) (place_refusal s.state)) (Some OutOfMemory)

abbrev pub IsWhyNot : AgentState → TiError → Type 0
IsWhyNot a e = IsWhyNotOf a.env (reverse a.waiting) e

-- the environment knows that the numbers below this one were threads
abbrev pub knowing : Environment → ℕ → Environment
knowing s n = record { env = s.env; state = with_known s.state n; desks = s.desks }
