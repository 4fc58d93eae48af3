use Rattle.std.proofs.Common.{◌≡◌, true, List, Option, Some, is_some, if◌then◌else◌, ap, sym, ◌∙◌}
use Rattle.std.specs.Prelude.{slice_get}
use Rattle.ti_types.specs.declared.answer.Answer.{Answer}
use Rattle.ti_types.specs.declared.event.Ticket.{Ticket}
use Rattle.ti_slot.specs.Tickets.{without_ticket}
use Rattle.ti_handshake.specs.Desk.{DeskState}
use Rattle.ti_handshake.proofs.Cancelling.{discarded_given}
use Rattle.ti_handshake.proofs.desk.Desk.discard_now.Goals as goal

pub put_cancelled-requires : goal.put_cancelled-requires
put_cancelled-requires c =
    let e = c.take_cancelled-cancelled.ensures in
    let gone = c.take_cancelled-cancelled.result.tickets in
    let posted = c.args.self.now.view.posted in
    let taken = c.take_cancelled-cancelled.new.self.view.posted in
    let t = c.in-Some.first in
    let first : Some t ≡ slice_get gone 0 = sym c.in-Some.is ∙ (c.first_cancelled.ensures ∙ ap (λ (l : List Ticket). slice_get l 0) (sym e.tickets)) in
    let left = c.in-Ok-Some.ensures.hold.waits.posted ∙ (ap (λ (o : Option Answer). if is_some o then without_ticket t taken else taken) c.in-Ok-Some.field-0-is ∙ ap (λ (p : DeskState). without_ticket t p.view.posted) e.none) in
    discarded_given gone posted _ _ t true e.given first c.remove_first.ensures.tickets left
