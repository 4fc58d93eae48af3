use Rattle.std.proofs.Common.{rules, inr}
use Rattle.ti_types.specs.declared.error.TiError.{TiError}
use Rattle.ti_service.proofs.Moves.{if_err}
use Rattle.ti_capi.specs.Doors.{RefusesDebugger}
use Rattle.ti_capi.proofs.doors.open_debugger.Goals as goal

pub returns-in_err-agent-clause-refused : goal.returns-in_err-agent-clause-refused
returns-in_err-agent-clause-refused c =
    if_err (λ (e : TiError). RefusesDebugger c.args.program.now c.args.path.now c.args.version.now c.args.service.now c.attach_environment_now.new.self e) c.from_residual-in_err-agent.result c.in_err-agent.field-0.0 (search rules)
    (inr (inr c.in_err-agent.ensures.refused))
