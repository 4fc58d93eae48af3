use Rattle.std.proofs.Common.{refl, sym, ap, ◌∙◌}
use Rattle.ti_capi.specs.Disposing.{DisposedIn, StaysIn}
use Rattle.ti_capi.specs.Handles.{env_held_with}
use Rattle.ti_capi.proofs.env_events.dispose.Goals as goal

pub returns-in-Ok : goal.returns-in-Ok
returns-in-Ok c = DisposedIn c.in-Some.agent c.in-Ok._service refl (sym c.take.ensures.value ∙ c.in-Some.is) (ap (env_held_with c.args.held.now) c.take.ensures.after) c.in-Ok.ensures.disposed

pub returns-in-Err : goal.returns-in-Err
returns-in-Err c =
    let e = c.in-Err.ensures in
    StaysIn c.in-Some.agent c.in-Err.agent c.in-Err.error c.number.ensures (sym c.take.ensures.value ∙ c.in-Some.is) refl e.kept (e.events, e.unmet)
