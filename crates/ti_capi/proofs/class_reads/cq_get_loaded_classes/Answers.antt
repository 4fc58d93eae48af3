use Rattle.std.proofs.Common.{List, map, refl, sym, ap, ◌∙◌}
use Rattle.ti_methods.specs.declared.info.ClassNo.{ClassNo}
use Rattle.ti_capi.specs.Classes.{ClassTold, ClassUntold}
use Rattle.ti_capi.proofs.Calling.{called}
use Rattle.ti_capi.proofs.ClassTelling.{numbers_written}
use Rattle.ti_capi.proofs.class_reads.cq_get_loaded_classes.Goals as goal

pub returns-in-Ok : goal.returns-in-Ok
returns-in-Ok c =
    let e = c.in-Ok.ensures in
    let items = c.deref.ensures in
    let all = ap (λ (l : List ClassNo). map (λ (n : ClassNo). n.0) l) items.value ∙ e.told in
    let written = numbers_written (λ (n : ClassNo). n.0) c.deref.result.now _ _ _ _ c.write_each.ensures (c.len.ensures ∙ sym items.len) all in
    called _ _ _ _ _ _ _ (sym c.in-Some.ensures.value) c.in-Some-agent.is (ClassTold refl e.rest written)

pub returns-in-Err : goal.returns-in-Err
returns-in-Err c =
    let e = c.in-Err.ensures in
    called _ _ _ _ _ _ _ (sym c.in-Some.ensures.value) c.in-Some-agent.is (ClassUntold c.in-Err.error c.number.ensures e.rest e.memory (refl, refl))
