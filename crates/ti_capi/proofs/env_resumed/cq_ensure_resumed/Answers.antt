use Rattle.std.proofs.Common.{Bool, Ok, ap, refl, sym}
use Rattle.ti_capi.specs.Resuming.{Resumed, YetToCome, NotResumed}
use Rattle.ti_capi.proofs.Calling.{called}
use Rattle.ti_capi.proofs.env_resumed.cq_ensure_resumed.Goals as goal

pub returns-in-Ok-true : goal.returns-in-Ok-true
returns-in-Ok-true c =
    let e = c.in-Ok-true.ensures in
    called _ _ _ _ _ _ _ (sym c.in-Some.ensures.value) c.in-Some-agent.is (Resumed refl e.home (e.resumed (ap (λ (b : Bool). Ok b) c.in-Ok-true.field-0-test)))

pub returns-in-Ok-false : goal.returns-in-Ok-false
returns-in-Ok-false c =
    let e = c.in-Ok-false.ensures in
    called _ _ _ _ _ _ _ (sym c.in-Some.ensures.value) c.in-Some-agent.is (YetToCome refl e.home (e.again (ap (λ (b : Bool). Ok b) c.in-Ok-false.field-0-test)))

pub returns-in-Err : goal.returns-in-Err
returns-in-Err c =
    let e = c.in-Err.ensures in
    called _ _ _ _ _ _ _ (sym c.in-Some.ensures.value) c.in-Some-agent.is (NotResumed c.in-Err.error c.number.ensures e.home e.refused)
