-- Traces that are made step by step, behind handles that are full.
use Rattle.std.proofs.Common.{◌≡◌, ℕ, Bool, true, false, Option, Some, None, Result, Ok, Err, refl, sym, ap, subst, ◌∙◌}
use Rattle.std.specs.Prelude.{IfErr, IfNone, IfOk, IfSome, is_some, not}
use Rattle.std.specs.Global.{Vec}
use Rattle.ti_types.specs.TiError.{number_of}
use Rattle.ti_types.specs.declared.error.TiError.{TiError}
use Rattle.ti_types.specs.declared.stack.StackInfo.{StackInfo}
use Rattle.ti_agent.specs.Gathering.{Gathers, GivesUp, GoesOn, IsBarred, is_given_up}
use Rattle.ti_service.specs.Memberships.{AgentValue, TraceValue}
use Rattle.ti_capi.specs.declared.held.HeldEnv.{HeldEnv}
use Rattle.ti_capi.specs.Gathers.{AllDone, Begun, BeginsIn, BeginsTo, IsBegun, IsFinished, IsNotOver, IsOver, IsStepped, MoreToDo, NotBegun, PutsBack, StepMet, StepsIn, StepsTo}
use Rattle.ti_capi.specs.Handles.{env_held_tracing, env_held_with}

-- what the agent says of a trace that begins, or does not, is what is said of the box
pub begun : (B : AgentValue → TraceValue → Type 0) (W : AgentValue → TiError → Type 0) (s : AgentValue) (o : Option AgentValue) (h n : HeldEnv) (code : ℕ) (r : Result TraceValue (TiError × AgentValue)) → h.agent ≡ Some s → o ≡ None → IfOk r (λ t. B s t)
    → IfOk r (λ t. t.home ≡ s.home) → IfErr r (λ e. W s e.0) → IfErr r (λ e. e.1 ≡ s) → IsBegun r (env_held_with h o) n code → BeginsIn B W h n code
begun B W s o h n code (Ok t) there gone begins rest refused back is =
    let new : n ≡ record { agent = None; trace = Some t; stacks = None } = is.0 ∙ ap (λ (a : Option AgentValue). record { agent = a; trace = Some t; stacks = None }) gone in
    subst (λ (a : Option AgentValue). BeginsTo a B W h n code) (sym there) (Begun t is.1 begins rest new)
begun B W s o h n code (Err r) there gone begins rest refused back is =
    let same : env_held_with h (Some r.1) ≡ h = ap (env_held_with h) (ap (λ (a : AgentValue). Some a) back ∙ sym there) in
    subst (λ (a : Option AgentValue). BeginsTo a B W h n code) (sym there) (NotBegun r.0 is.1 refused (is.0 ∙ same))

-- the end of a trace
not_true : (b : Bool) → true ≡ not b → b ≡ false
not_true false h = refl
not_true true h = h

not_false : (b : Bool) → false ≡ not b → b ≡ true
not_false true h = refl
not_false false h = h

pub finished : (t : TraceValue) (a : AgentValue) (told : Option (Vec StackInfo)) → IfSome told (λ infos. Gathers t.trace a.env infos.items) → is_some told ≡ not (is_given_up t.trace.phase) → IfNone told (GivesUp t.trace a.env) → a.home ≡ t.home → IsFinished t a told
finished t a (Some infos) gathers is given_up rest = (not_true (is_given_up t.trace.phase) is, gathers, rest)
finished t a None gathers is given_up rest = (not_false (is_given_up t.trace.phase) is, given_up, rest)

-- a trace that made a step and was put back
abbrev without_trace : HeldEnv → Option TraceValue → HeldEnv
without_trace h o = record { agent = h.agent; trace = o; stacks = h.stacks }

pub stepped : (t m : TraceValue) (b0 b1 : Bool) (o : Option TraceValue) (h n : HeldEnv) → h.trace ≡ Some t → o ≡ None → IsStepped t m → GoesOn t.trace m.trace → PutsBack m (without_trace h o) n b1 → StepsIn b0 b1 h n 0
stepped t m b0 b1 o h n there gone steps on (IsOver a told over ended end is) =
    let new : n ≡ record { agent = Some a; trace = None; stacks = told } = is ∙ ap (λ (x : Option TraceValue). record { agent = Some a; trace = x; stacks = told }) gone in
    subst (λ (x : Option TraceValue). StepsTo x b0 b1 h n 0) (sym there) (AllDone m a told refl over steps on ended end new)
stepped t m b0 b1 o h n there gone steps on (IsNotOver over ended is) = subst (λ (x : Option TraceValue). StepsTo x b0 b1 h n 0) (sym there) (MoreToDo m refl over steps on ended is)

-- and one that met something
pub met : (t m : TraceValue) (e : TiError) (b : Bool) (h : HeldEnv) (code : ℕ) → h.trace ≡ Some t → code ≡ number_of e → IsStepped t m → IsBarred t.trace m.trace e → m.trace.phase ≡ t.trace.phase → StepsIn b b h (env_held_tracing h m) code
met t m e b h code there is steps why stays = subst (λ (x : Option TraceValue). StepsTo x b b h (env_held_tracing h m) code) (sym there) (StepMet m e is refl steps why stays refl)
