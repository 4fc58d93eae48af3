use Rattle.std.proofs.Common.{List, Option, Some, refl, sym, subst, ◌∙◌}
use Rattle.ti_types.specs.declared.place.Frame.{Frame}
use Rattle.ti_thread.specs.Hosts.{SetsUnlessPopped}
use Rattle.ti_thread.specs.declared.host_thread.HostThread.{HostThread}
use Rattle.ti_capi.specs.declared.held.HeldThread.{HeldThread}
use Rattle.ti_capi.specs.Frames.{FramesSet, SetsTo}
use Rattle.ti_capi.proofs.thread_frames.set_frames.Goals as goal

pub returns-in-Ok-true : goal.returns-in-Ok-true
returns-in-Ok-true c =
    let e = c.in-Ok-true.ensures in
    let all = sym e.all ∙ c.in-Ok-true.field-0-test in
    let sets = subst (λ (l : List Frame). SetsUnlessPopped l c.in-Some.host c.set_frames.new.self c.set_frames.result) (c.deref.ensures.value ∙ e.read c.in-Ok-true.field-0-test) c.set_frames.ensures in
    let new : HeldThread = record { service = c.args.held.now.service; thread = Some c.set_frames.new.self; frames = c.read_frames.new.into } in
    subst (λ (o : Option HostThread). SetsTo o (Some c.set_frames.new.self) c.args.frames.now c.args.held.now new c.told_code.result) (sym c.in-Some.is)
    (refl, FramesSet c.set_frames.result all sets c.told_code.ensures)
