use Rattle.std.proofs.Common.{refl, sym, subst}
use Rattle.ti_types.specs.declared.event.Ticket.{Ticket}
use Rattle.ti_capi.specs.Calls.{CancelsBy, Cancelled, NotCancelled}
use Rattle.ti_capi.proofs.Calling.{called}
use Rattle.ti_capi.proofs.env_collects.cq_cancel.Goals as goal

pub returns-in-Ok : goal.returns-in-Ok
returns-in-Ok c =
    let e = c.in-Ok.ensures in
    called _ _ _ _ _ _ _ (sym c.in-Some.ensures.value) c.in-Some-agent.is
    (subst (λ (k : Ticket). CancelsBy k c.in-Some-agent.agent c.cancel_now.new.self 0) c.ticket_in.ensures (Cancelled refl e.home e.cancels (λ far. (e.nobody far).0)))

pub returns-in-Err : goal.returns-in-Err
returns-in-Err c =
    let e = c.in-Err.ensures in
    called _ _ _ _ _ _ _ (sym c.in-Some.ensures.value) c.in-Some-agent.is (NotCancelled c.in-Err.error c.number.ensures e.refused e.unchanged)
