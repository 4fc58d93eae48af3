use Rattle.std.proofs.Common.{◌++◌, ◌∙◌, ap}
use Rattle.ti_slot.specs.Tickets.{without_ticket}
use Rattle.ti_handshake.specs.Call.{ticket_told}
use Rattle.ti_handshake.proofs.Desks.{answered_later, in_and_out}
use Rattle.ti_handshake.proofs.desk.Desk.call_or_leave.Goals as goal

pub returns-in-Some-clause-left : goal.returns-in-Some-clause-left
returns-in-Some-clause-left g c =
    let t = c.in-Waiting.ticket in
    let more = c.post.ensures.hold.waits.posted ∙ ap (λ r. c.args.self.now.view.posted ++ ticket_told r) c.in-Waiting.is in
    record {
      posted = c.in-Some.ensures.hold.posted ∙ (ap (without_ticket t) more ∙ in_and_out t c.args.self.now.view.posted c.in-Waiting.ensures.told.2);
      answered = answered_later c.args.self.now c.post.new.self c.collect_within.new.self c.args.call t _ _ _ c.post.ensures.hold.waits c.in-Waiting.ensures.told c.in-Some.ensures.hold c.in-Some.ensures.place;
    }
