use Rattle.std.proofs.Common.{◌++◌, ◌∙◌, ap}
use Rattle.ti_slot.specs.Tickets.{without_ticket}
use Rattle.ti_handshake.specs.Call.{ticket_told}
use Rattle.ti_handshake.proofs.Desks.{answered_later, in_and_out}
use Rattle.ti_handshake.proofs.desk.Desk.call.Goals as goal

pub returns-in-Waiting-clause-answer : goal.returns-in-Waiting-clause-answer
returns-in-Waiting-clause-answer g c =
    answered_later c.args.self.now c.post.new.self c.collect.new.self c.args.call c.in-Waiting.ticket _ _ _ c.post.ensures.hold.waits c.in-Waiting.ensures.told c.collect.ensures.hold c.collect.ensures.place

pub returns-in-Waiting-clause-posted : goal.returns-in-Waiting-clause-posted
returns-in-Waiting-clause-posted g c =
    c.collect.ensures.hold.posted ∙ (ap (without_ticket c.in-Waiting.ticket) (c.post.ensures.hold.waits.posted ∙ ap (λ r. c.args.self.now.view.posted ++ ticket_told r) c.in-Waiting.is) ∙ in_and_out c.in-Waiting.ticket c.args.self.now.view.posted c.in-Waiting.ensures.told.2)
