use Rattle.std.proofs.Common.{◌≡◌, ◌++◌, ◌∷◌, [], List, true, false, ap, sym, ◌∙◌}
use Rattle.ti_types.specs.declared.event.Ticket.{Ticket}
use Rattle.ti_slot.specs.Tickets.{has}
use Rattle.ti_handshake.specs.Cancelled.{Given}
use Rattle.ti_handshake.specs.Desk.{DeskState}
use Rattle.ti_handshake.proofs.Cancelling.{cancel_given, same_given}
use Rattle.ti_handshake.proofs.desk.Desk.cancel_now.Goals.{then-out+then-not-has, else-out}
use Rattle.ti_handshake.proofs.desk.Desk.cancel_now.Goals as goal

pub put_cancelled-requires-in-Ok : goal.put_cancelled-requires-in-Ok
put_cancelled-requires-in-Ok c =
    let e = c.take_cancelled-cancelled.ensures in
    let gone = c.take_cancelled-cancelled.result.tickets in
    let t = c.args.ticket in
    let posted : c.has_out_now.new.self.view.posted ≡ c.args.self.now.view.posted = c.in-Ok.ensures.hold.waits.posted ∙ ap (λ (p : DeskState). p.view.posted) e.none in
    elim c.if-out.branch [
      | then-out+then-not-has w ↦
          let there : has t c.args.self.now.view.posted ≡ true = ap (λ (p : DeskState). has t p.view.posted) (sym e.none) ∙ (sym c.in-Ok.ensures.out ∙ w.if-out.true) in
          let new : has t gone ≡ false = ap (has t) (sym c.reserve.ensures.tickets) ∙ (sym w.has.ensures ∙ w.if-not-has.true) in
          cancel_given gone c.args.self.now.view.posted _ _ t e.given new there (ap (λ (x : Given). x.tickets) w.cancelled-is ∙ (w.add.ensures.tickets ∙ ap (λ (l : List Ticket). l ++ t ∷ []) c.reserve.ensures.tickets)) posted
      | else-out w ↦ same_given gone c.args.self.now.view.posted _ _ e.given (ap (λ (x : Given). x.tickets) w.cancelled-is ∙ c.reserve.ensures.tickets) posted
    ]
