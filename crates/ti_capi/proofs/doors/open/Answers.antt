use Rattle.std.proofs.Common.{rules, inr, ap, ◌∙◌}
use Rattle.std.specs.String.{string_bytes}
use Rattle.ti_types.specs.declared.error.TiError.{TiError}
use Rattle.ti_service.proofs.Moves.{if_err}
use Rattle.ti_capi.specs.Doors.{RefusesDoor}
use Rattle.ti_capi.proofs.Serving.{serves}
use Rattle.ti_capi.proofs.doors.open.Goals as goal

pub returns-in_err-agent-clause-refused : goal.returns-in_err-agent-clause-refused
returns-in_err-agent-clause-refused c =
    if_err (λ (e : TiError). RefusesDoor c.args.program.now c.args.version.now c.args.service.now c.attach_environment_now.new.self e) c.from_residual-in_err-agent.result c.in_err-agent.field-0.0 (search rules)
    (inr (inr c.in_err-agent.ensures.refused))

pub returns-clause-opened : goal.returns-clause-opened
returns-clause-opened c =
    let named = ap (λ s. string_bytes s) c.new-monitor.ensures.program ∙ c.in_ok-program.ensures.same in
    serves _ _ _ _ c.in_ok-agent.agent _ _ _ _ _ _ c.new-door.ensures c.hosts_at.ensures named c.in_ok-version.ensures.same c.in_ok-agent.ensures.attached c.new-monitor.ensures.agent
