use Rattle.std.proofs.Common.{rules, ℕ, w32, List, length, refl, sym, ap, ◌∙◌}
use Rattle.std.proofs.lemmas.Int.{to_z-of_z}
use Rattle.ti_capi.specs.Calls.{InfoTold, InfoRefused}
use Rattle.ti_capi.specs.Values.{over}
use Rattle.ti_capi.proofs.Calling.{called}
use Rattle.ti_capi.proofs.env_list.cq_get_thread_info.Goals as goal

pub returns-in-Ok : goal.returns-in-Ok
returns-in-Ok c =
    let e = c.in-Ok.ensures in
    let bytes = c.as_bytes-bytes.ensures.value in
    called _ _ _ _ _ _ _ (sym c.in-Some.ensures.value) c.in-Some-agent.is
    (InfoTold c.in-Ok.told refl e.rest e.hold e.told (λ i. record { name_length = length (bytes i); priority = to_z-of_z w32 c.in-Ok.told.priority (search rules) i }) (c.write_bytes.ensures ∙ ap (λ (b : List ℕ). over b c.args.name.now) bytes))

pub returns-in-Err : goal.returns-in-Err
returns-in-Err c = called _ _ _ _ _ _ _ (sym c.in-Some.ensures.value) c.in-Some-agent.is (InfoRefused c.in-Err.error c.number.ensures refl refl c.in-Err.ensures.rest c.in-Err.ensures.refused)
