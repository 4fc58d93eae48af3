use Rattle.std.proofs.Common.{◌≡◌, Some, ap, sym, subst, ◌∙◌}
use Rattle.ti_service.specs.Memberships.{TraceValue}
use Rattle.ti_capi.specs.Gathers.{StepsIn}
use Rattle.ti_capi.specs.Handles.{env_held_tracing}
use Rattle.ti_capi.proofs.Traced.{met, stepped}
use Rattle.ti_capi.proofs.env_traces.step.Goals as goal

pub returns-in-Ok : goal.returns-in-Ok
returns-in-Ok c =
    let e = c.in-Ok.ensures in
    let t : TraceValue = c.into_trace-trace.result in
    let there : c.args.held.now.trace ≡ Some t = sym c.take.ensures.value ∙ (c.in-Some.is ∙ ap (λ (x : TraceValue). Some x) (sym c.into_trace-trace.ensures)) in
    stepped t c.step.new.self c.args.over.now c.put_back.result c.take.new.self c.args.held.now c.put_back.new.held there c.take.ensures.after (e.same, e.given_up, e.home) e.on c.put_back.ensures

pub returns-in-Err : goal.returns-in-Err
returns-in-Err c =
    let e = c.in-Err.ensures in
    let t : TraceValue = c.into_trace-trace.result in
    let there : c.args.held.now.trace ≡ Some t = sym c.take.ensures.value ∙ (c.in-Some.is ∙ ap (λ (x : TraceValue). Some x) (sym c.into_trace-trace.ensures)) in
    subst (λ (x : TraceValue). StepsIn c.args.over.now c.args.over.now c.args.held.now (env_held_tracing c.args.held.now x) c.number.result) (sym c.of.ensures)
    (met t c.step.new.self c.in-Err.error c.args.over.now c.args.held.now c.number.result there c.number.ensures (e.same, e.given_up, e.home) e.why e.stays)
