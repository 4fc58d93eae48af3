-- Calls behind handles that are full.
use Rattle.std.proofs.Common.{◌≡◌, ℕ, Option, Some, refl, sym, subst}
use Rattle.ti_service.specs.Memberships.{AgentValue}
use Rattle.ti_capi.specs.declared.held.HeldEnv.{HeldEnv}
use Rattle.ti_capi.specs.Calls.{Calls, CallsBehind, CallsTo}
use Rattle.ti_capi.specs.Handles.{Handle, env_held_with, env_in, with_held_env}

-- a call of the environment behind a handle
module _ (R : AgentValue → AgentValue → ℕ → Type 0) (unwritten : Type 0) (old : Handle) (h : HeldEnv) (s n : AgentValue) (code : ℕ) where
  pub called : env_in old ≡ Some h → h.agent ≡ Some s → R s n code → Calls R unwritten old (with_held_env old (env_held_with h (Some n))) code
  called is there says =
      let m : HeldEnv = env_held_with h (Some n) in
      subst (λ (e : Option HeldEnv). CallsBehind e (Some m) R unwritten old (with_held_env old m) code) (sym is)
      (refl, (refl, refl), subst (λ (a : Option AgentValue). CallsTo a (Some n) R unwritten code) (sym there) says)
