use Rattle.std.proofs.Common.{refl, sym}
use Rattle.ti_capi.specs.Classes.{ClassTold, ClassUntold}
use Rattle.ti_capi.proofs.Calling.{called}
use Rattle.ti_capi.proofs.class_reads.cq_get_method_declaring_class.Goals as goal

pub returns-in-Ok : goal.returns-in-Ok
returns-in-Ok c =
    let e = c.in-Ok.ensures in
    called _ _ _ _ _ _ _ (sym c.in-Some.ensures.value) c.in-Some-agent.is (ClassTold refl e.rest (c.in-Ok.told, e.told, refl))

pub returns-in-Err : goal.returns-in-Err
returns-in-Err c =
    let e = c.in-Err.ensures in
    called _ _ _ _ _ _ _ (sym c.in-Some.ensures.value) c.in-Some-agent.is (ClassUntold c.in-Err.error c.number.ensures e.rest e.refused refl)
