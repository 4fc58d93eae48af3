use Rattle.std.proofs.Common.{List, map, length, refl, sym, ap, ◌∙◌}
use Rattle.ti_types.specs.declared.numbers.ThreadNo.{ThreadNo}
use Rattle.ti_capi.specs.Calls.{Listed, NotListed}
use Rattle.ti_capi.specs.Values.{over}
use Rattle.ti_capi.proofs.Calling.{called}
use Rattle.ti_capi.proofs.env_list.cq_get_all_threads.Goals as goal

pub returns-in-Ok : goal.returns-in-Ok
returns-in-Ok c =
    let e = c.in-Ok.ensures in
    let written = c.write_each.ensures ∙ ap (λ (l : List ThreadNo). over (map (λ (t : ThreadNo). t.0) l) c.args.threads.now) (c.deref.ensures.value ∙ e.threads) in
    let count = c.len.ensures ∙ sym c.deref.ensures.len ∙ ap (λ (l : List ThreadNo). length l) (c.deref.ensures.value ∙ e.threads) in
    called _ _ _ _ _ _ _ (sym c.in-Some.ensures.value) c.in-Some-agent.is (Listed refl e.rest e.hold written count)

pub returns-in-Err : goal.returns-in-Err
returns-in-Err c = called _ _ _ _ _ _ _ (sym c.in-Some.ensures.value) c.in-Some-agent.is (NotListed c.in-Err.error c.number.ensures refl refl c.in-Err.ensures.rest c.in-Err.ensures.refused)
