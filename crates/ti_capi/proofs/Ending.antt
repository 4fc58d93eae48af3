-- The end of what lies behind a handle.
use Rattle.std.proofs.Common.{◌≡◌, ℕ, inl, inr, Option, Some, refl, sym, ap, subst, ◌∙◌, arith}
use Rattle.ti_types.specs.TiError.{number_of}
use Rattle.ti_types.specs.declared.error.TiError.{TiError}
use Rattle.ti_service.specs.Leaving.{StaysOn, NotQuiet, NotCleared, NotLeft}
use Rattle.ti_service.specs.Memberships.{AgentValue, state_of}
use Rattle.ti_capi.specs.declared.held.HeldEnv.{HeldEnv}
use Rattle.ti_capi.specs.declared.held.HeldThread.{HeldThread}
use Rattle.ti_capi.specs.Disposing.{DisposesBy, DisposesIn, NoEnvironment, DisposedIn, StaysIn, Disposed, StaysBehind}
use Rattle.ti_capi.specs.Frames.{Detaches, Detached, GivesBack, StaysHeld}
use Rattle.ti_capi.specs.Handles.{Handle, agent_behind, agent_in, env_in, thread_in, with_held_env, with_held_thread}
use Rattle.ti_capi.proofs.Behind.{same_env}

-- a refusal has no code 0
refused_not_0 : (s n : AgentValue) (e : TiError) → StaysOn (state_of s) (state_of n) e → (code : ℕ) → code ≡ number_of e → code ≡ 0 → ⊥
refused_not_0 s n e (NotQuiet (inl is) same waiting quiet) code c z = let f = c ∙ ap number_of is in omega (arith, f, z)
refused_not_0 s n e (NotQuiet (inr is) same waiting quiet) code c z = let f = c ∙ ap number_of is in omega (arith, f, z)
refused_not_0 s n e (NotCleared (inl is) same all) code c z = let f = c ∙ ap number_of is in omega (arith, f, z)
refused_not_0 s n e (NotCleared (inr is) same all) code c z = let f = c ∙ ap number_of is in omega (arith, f, z)
refused_not_0 s n e (NotLeft is over cell looks all) code c z = let f = c ∙ ap number_of is in omega (arith, f, z)

-- the environment was disposed of, and the handle is empty
pub disposed : (old new : Handle) (h n : HeldEnv) (code : ℕ) → env_in old ≡ Some h → DisposesIn h n code → code ≡ 0 → new.kind ≡ 0 → DisposesBy (agent_in old) old new code
disposed old new h n code is (NoEnvironment c on nn) z k = absurd (omega (arith, c, z))
disposed old new h n code is (DisposedIn s m c there gone d) z k =
    subst (λ (o : Option AgentValue). DisposesBy o old new code) (sym (ap agent_behind is ∙ there)) (Disposed m c k d)
disposed old new h n code is (StaysIn s a e c there stays st ev) z k = absurd (refused_not_0 s a e st code c z)

-- it was not
pub remains : (old : Handle) (h n : HeldEnv) (code : ℕ) → env_in old ≡ Some h → DisposesIn h n code → (code ≡ 0 → ⊥) → DisposesBy (agent_in old) old (with_held_env old n) code
remains old h n code is (NoEnvironment c on nn) nz =
    subst (λ (o : Option AgentValue). DisposesBy o old (with_held_env old n) code) (sym (ap agent_behind is ∙ on)) (same_env old n (is ∙ ap (λ (x : HeldEnv). Some x) (sym nn)), c)
remains old h n code is (DisposedIn s m c there gone d) nz = absurd (nz c)
remains old h n code is (StaysIn s a e c there stays st ev) nz =
    subst (λ (o : Option AgentValue). DisposesBy o old (with_held_env old n) code) (sym (ap agent_behind is ∙ there)) (StaysBehind h a e c is (ap (with_held_env old) stays) st ev)

-- the thread was given back, and the handle is empty
pub detached : (old new : Handle) (h n : HeldThread) (code : ℕ) → thread_in old ≡ Some h → GivesBack h n code → code ≡ 0 → new.kind ≡ 0 → Detaches (thread_in old) old new code
detached old new h n code is back z k =
    subst (λ (o : Option HeldThread). Detaches o old new code) (sym is) (Detached n z k (subst (λ (c : ℕ). GivesBack h n c) z back))

-- it was not
pub stays_held : (old : Handle) (h n : HeldThread) (code : ℕ) → thread_in old ≡ Some h → GivesBack h n code → (code ≡ 0 → ⊥) → Detaches (thread_in old) old (with_held_thread old n) code
stays_held old h n code is back nz =
    subst (λ (o : Option HeldThread). Detaches o old (with_held_thread old n) code) (sym is) (StaysHeld n nz refl back)
