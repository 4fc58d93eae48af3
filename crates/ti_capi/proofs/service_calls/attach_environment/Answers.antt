use Rattle.std.proofs.Common.{rules, Some, inr, refl, ap, ◌∙◌}
use Rattle.std.proofs.lemmas.Option.{same_Some}
use Rattle.ti_types.specs.declared.error.TiError.{TiError}
use Rattle.ti_service.proofs.Moves.{if_err}
use Rattle.ti_capi.specs.declared.held.Held.{Held}
use Rattle.ti_capi.specs.declared.held.HeldEnv.{HeldEnv}
use Rattle.ti_capi.specs.Handles.{env_of}
use Rattle.ti_capi.specs.Services.{RefusesEnv}
use Rattle.ti_capi.proofs.service_calls.attach_environment.Goals as goal

pub returns-clause-attached : goal.returns-clause-attached
returns-clause-attached c =
    let is = same_Some _ _ (c.in-Some.ensures.value ∙ ap (λ (x : Held). env_of (Some x)) (c.deref_mut.ensures.value ∙ c.in_ok-held.ensures.same)) in (
      c.in_ok-agent.agent,
      refl,
      c.in_ok-agent.ensures.attached,
      ap (λ (h : HeldEnv). h.trace) is,
      ap (λ (h : HeldEnv). h.stacks) is,
    )

pub returns-in_err-agent-clause-refused : goal.returns-in_err-agent-clause-refused
returns-in_err-agent-clause-refused c =
    if_err (λ (e : TiError). RefusesEnv c.args.service.now c.attach_environment_now.new.self e) c.from_residual-in_err-agent.result c.in_err-agent.field-0.0 (search rules)
    (inr c.in_err-agent.ensures.refused)
