use mir.Val.{of_z, to_z}
use Rattle.std.proofs.Common.{w32, Some, ap, subst, ◌∙◌}
use Rattle.std.proofs.lemmas.Int.{to_z-of_z}
use Rattle.std.proofs.lemmas.Option.{same_Some}
use Rattle.ti_roster.specs.declared.info.ThreadInfo.{ThreadInfo}
use Rattle.ti_service.specs.Service.{Attaches, Member}
use Rattle.ti_thread.specs.declared.host_thread.HostThread.{HostThread}
use Rattle.ti_capi.specs.declared.held.Held.{Held}
use Rattle.ti_capi.specs.declared.held.HeldThread.{HeldThread}
use Rattle.ti_capi.specs.Handles.{thread_of}
use Rattle.ti_capi.proofs.service_calls.attach_thread.Goals as goal

pub returns-clause-attached : goal.returns-clause-attached
returns-clause-attached c =
    let given : ThreadInfo = record { name = c.in_ok-name.name; priority = to_z w32 (of_z w32 c.args.priority) } in
    let empty = c.in-Some.ensures.value ∙ ap (λ (x : Held). thread_of (Some x)) (c.deref_mut.ensures.value ∙ c.in_ok-held.ensures.same) in record {
      info = given;
      fresh = c.in_ok-fresh.fresh;
      name_is = c.in_ok-name.ensures.same;
      priority_is = to_z-of_z w32 c.args.priority c.ranges.priority;
      cell = c.in_ok-fresh.ensures.cell ∙ ap (λ (m : Member). m.cell) c.in_ok-share.ensures.made;
      attaches = subst (λ (m : Member). Attaches m.view c.attach_thread_now.new.self.view given c.in_ok-fresh.fresh) c.in_ok-share.ensures.made c.in_ok-fresh.ensures.attached;
      thread_is = ap (λ (h : HostThread). Some h) c.new-in-Some.ensures;
      service_is = ap (λ (h : HeldThread). h.service.cell) (same_Some _ _ empty) ∙ c.in_ok-share.ensures.other.0;
    }
