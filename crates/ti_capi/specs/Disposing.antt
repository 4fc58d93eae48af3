-- The end of an environment, as C makes it.
use Rattle.std.specs.Prelude.{ℕ, ◌≡◌, Option, Some, None}
use Rattle.ti_types.specs.TiError.{number_of}
use Rattle.ti_types.specs.declared.error.TiError.{TiError}
use Rattle.ti_service.specs.Leaving.{Disposes, StaysOn}
use Rattle.ti_service.specs.Memberships.{AgentValue, state_of}
use Rattle.ti_service.specs.Service.{Member}
use Rattle.ti_capi.specs.Codes.{misused}
use Rattle.ti_capi.specs.declared.held.HeldEnv.{HeldEnv}
use Rattle.ti_capi.specs.Handles.{Handle, env_held_with, env_in, with_held_env}

-- the environment is disposed of, and the handle is empty; or it stays, and can be disposed of later
-- (`ti_service`, `dispose_now`)
pub data DisposesIn (old new : HeldEnv) (code : ℕ) : Type 0 where
  NoEnvironment : code ≡ misused → old.agent ≡ None → new ≡ old → DisposesIn old new code
  DisposedIn : (s : AgentValue) → (m : Member) → code ≡ 0 → old.agent ≡ Some s → new ≡ env_held_with old None → Disposes (state_of s) m → DisposesIn old new code
  StaysIn : (s n : AgentValue) → (e : TiError) → code ≡ number_of e → old.agent ≡ Some s → new ≡ env_held_with old (Some n) → StaysOn (state_of s) (state_of n) e → (n.home.events ≡ s.home.events) × (n.home.unmet ≡ s.home.unmet) → DisposesIn old new code

-- the same behind a handle
pub data DisposesBehind (s : AgentValue) (old new : Handle) (code : ℕ) : Type 0 where
  Disposed : (m : Member) → code ≡ 0 → new.kind ≡ 0 → Disposes (state_of s) m → DisposesBehind s old new code
  StaysBehind : (h : HeldEnv) → (n : AgentValue) → (e : TiError) → code ≡ number_of e → env_in old ≡ Some h → new ≡ with_held_env old (env_held_with h (Some n)) → StaysOn (state_of s) (state_of n) e → (n.home.events ≡ s.home.events) × (n.home.unmet ≡ s.home.unmet)
      → DisposesBehind s old new code

abbrev pub DisposesBy : Option AgentValue → Handle → Handle → ℕ → Type 0
DisposesBy (Some s) old new code = DisposesBehind s old new code
DisposesBy None old new code = (new ≡ old) × (code ≡ misused)
