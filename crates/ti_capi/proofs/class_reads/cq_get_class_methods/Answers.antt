use Rattle.std.proofs.Common.{List, map, refl, sym, ap, ◌∙◌}
use Rattle.ti_types.specs.declared.numbers.MethodNo.{MethodNo}
use Rattle.ti_capi.specs.Classes.{ClassTold, ClassUntold}
use Rattle.ti_capi.proofs.Calling.{called}
use Rattle.ti_capi.proofs.ClassTelling.{numbers_written}
use Rattle.ti_capi.proofs.class_reads.cq_get_class_methods.Goals as goal

pub returns-in-Ok : goal.returns-in-Ok
returns-in-Ok c =
    let e = c.in-Ok.ensures in
    let items = c.deref.ensures in
    let all = ap (λ (l : List MethodNo). map (λ (m : MethodNo). m.0) l) items.value in
    let written = numbers_written (λ (m : MethodNo). m.0) c.deref.result.now _ _ _ _ c.write_each.ensures (c.len.ensures ∙ sym items.len) all in
    called _ _ _ _ _ _ _ (sym c.in-Some.ensures.value) c.in-Some-agent.is (ClassTold refl e.rest (c.in-Ok.told.items, e.told, written))

pub returns-in-Err : goal.returns-in-Err
returns-in-Err c =
    let e = c.in-Err.ensures in
    called _ _ _ _ _ _ _ (sym c.in-Some.ensures.value) c.in-Some-agent.is (ClassUntold c.in-Err.error c.number.ensures e.rest e.refused (refl, refl))
