use Rattle.std.proofs.Common.{◌++◌, ◌∷◌, [], List, ap, sym, ◌∙◌}
use Rattle.ti_types.specs.declared.event.Ticket.{Ticket}
use Rattle.ti_slot.specs.Tickets.{has}
use Rattle.ti_handshake.specs.Desk.{DeskState}
use Rattle.ti_handshake.proofs.Cancelling.{left_given}
use Rattle.ti_handshake.proofs.desk.Desk.call_within.Goals as goal

pub put_cancelled-requires-in-Err-call_or_leave : goal.put_cancelled-requires-in-Err-call_or_leave
put_cancelled-requires-in-Err-call_or_leave g c =
    let e = c.take_cancelled-cancelled.ensures in
    let t = c.in-Err-call_or_leave.ticket in
    let k = c.in-Err-call_or_leave.ensures.left in
    left_given c.take_cancelled-cancelled.result.tickets c.args.self.now.view.posted _ _ t e.given
    (ap (λ (p : DeskState). has t p.view.posted) (sym e.none) ∙ k.new_one)
    (c.add.ensures.tickets ∙ ap (λ (l : List Ticket). l ++ t ∷ []) c.reserve.ensures.tickets)
    (k.posted ∙ ap (λ (p : DeskState). p.view.posted ++ t ∷ []) e.none)
