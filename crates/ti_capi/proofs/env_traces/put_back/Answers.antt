use Rattle.std.proofs.Common.{refl, ap, ◌∙◌}
use Rattle.ti_capi.specs.Gathers.{IsNotOver, IsOver}
use Rattle.ti_capi.specs.Handles.{env_held_tracing}
use Rattle.ti_capi.proofs.Traced.{finished}
use Rattle.ti_capi.proofs.env_traces.put_back.Goals as goal

pub returns-in-Ok : goal.returns-in-Ok
returns-in-Ok c =
    let e = c.in-Ok.ensures in
    IsOver c.in-Ok.agent c.in-Ok.told refl e.ended (finished c.args.trace c.in-Ok.agent c.in-Ok.told e.gathers e.told e.given_up e.home) refl

pub returns-in-Err : goal.returns-in-Err
returns-in-Err c = IsNotOver refl c.in-Err.ensures.refused (ap (env_held_tracing c.args.held.now) (c.of.ensures ∙ c.in-Err.ensures.back))
