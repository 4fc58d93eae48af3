use Rattle.std.proofs.Common.{◌≡◌, Option, Some, refl, sym, ap, subst, ◌∙◌}
use Rattle.ti_cell.specs.Seats.{Sitting}
use Rattle.ti_thread.specs.Hosts.{host_of}
use Rattle.ti_thread.specs.declared.any_thread.AnyThread.{AnyThread}
use Rattle.ti_thread.specs.declared.any_thread.AnyThread.TheVariants.{Fresh, Ended}
use Rattle.ti_thread.specs.declared.host_thread.HostThread.{HostThread}
use Rattle.ti_capi.specs.Frames.{GivesBackTo, NotGone}
use Rattle.ti_capi.proofs.thread_frames.give_back.Goals as goal

pub returns-in-Err : goal.returns-in-Err
returns-in-Err c =
    let pops = c.in-Some.field-0.pops in
    let was : c.args.held.now.thread ≡ Some (host_of (Ended c.in-Ended.ended) pops) =
    sym c.take.ensures.value ∙ (c.in-Some.is ∙ ap (λ (t : AnyThread). Some (host_of t pops)) c.in-Ended.is) in
    let e = c.in-Err.ensures in
    let back = ap (λ (h : HostThread). Some h) (c.of.ensures ∙ ap (λ (s : Sitting). host_of (Ended s) pops) e.back) in
    subst (λ (o : Option HostThread). GivesBackTo o c.args.held.now (record { service = c.detach_thread_now.new.self; thread = Some c.of.result; frames = c.args.held.now.frames }) c.number.result) (sym was)
    (NotGone c.in-Err.error c.number.ensures refl back e.cell e.refused)

pub returns-in-Err-withdraw_thread_now : goal.returns-in-Err-withdraw_thread_now
returns-in-Err-withdraw_thread_now c =
    let pops = c.in-Some.field-0.pops in
    let was : c.args.held.now.thread ≡ Some (host_of (Fresh c.in-Fresh.fresh) pops) =
    sym c.take.ensures.value ∙ (c.in-Some.is ∙ ap (λ (t : AnyThread). Some (host_of t pops)) c.in-Fresh.is) in
    let e = c.in-Err-withdraw_thread_now.ensures in
    let back = ap (λ (h : HostThread). Some h) (c.of-in-Err-withdraw_thread_now.ensures ∙ ap (λ (s : Sitting). host_of (Fresh s) pops) e.back) in
    subst (λ (o : Option HostThread). GivesBackTo o c.args.held.now (record { service = c.withdraw_thread_now.new.self; thread = Some c.of-in-Err-withdraw_thread_now.result; frames = c.args.held.now.frames }) c.number-in-Err-withdraw_thread_now.result) (sym was)
    (NotGone c.in-Err-withdraw_thread_now.error c.number-in-Err-withdraw_thread_now.ensures refl back e.cell e.refused)
