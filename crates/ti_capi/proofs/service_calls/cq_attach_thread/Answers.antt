use Rattle.std.proofs.Common.{ℤ, w32, sym, subst, ◌∙◌}
use Rattle.std.proofs.lemmas.Int.{to_z-of_z}
use Rattle.std.specs.Box.{box_value}
use Rattle.ti_capi.specs.Services.{AttachesFor}
use Rattle.ti_capi.proofs.Filling.{filled, filled_by}
use Rattle.ti_capi.proofs.service_calls.cq_attach_thread.Goals as goal

pub returns : goal.returns
returns c =
    let empty = sym c.is_empty.ensures ∙ c.if-not-is_empty.false in
    let n = c.attach_thread.new.service in
    let e = c.attach_thread.ensures in
    let attached = filled box_value _ _ _ _ _ _ c.attach_thread.result empty c.fill.ensures.put c.fill.ensures.refused e.attached e.refused in
    filled_by _ _ n _ _ _ _ c.in-Some.ensures.value
    (subst (λ (z : ℤ). AttachesFor c.args.name.now z c.in-Some.service.now n c.args.thread.now c.fill.new.handle c.fill.result) (to_z-of_z w32 c.args.priority c.ranges.priority) attached)
