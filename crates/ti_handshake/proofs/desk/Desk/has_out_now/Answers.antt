use Rattle.std.proofs.Common.{ap, sym, ◌∙◌}
use Rattle.ti_slot.specs.Tickets.{has}
use Rattle.ti_handshake.proofs.Desks.{Took, took, own_has, posted_is}
use Rattle.ti_handshake.proofs.desk.Desk.has_out_now.Goals.{After-slot-slot}
use Rattle.ti_handshake.proofs.desk.Desk.has_out_now.Goals as goal

-- the slot that the desk took
taken : (c : After-slot-slot) → Took c.args.self.now c.self.inside.env c.in-Some.seat c.in-Ok.hold c.slot-slot.result.now
taken c = took _ _ _ _ _ _ _ c.in-Ok.hold _ c.self.invariant c.self.view_is c.in-Some.is c.take.ensures.value c.in-Ok.ensures.view c.in-Ok.ensures.taken c.slot-slot.ensures.value

pub returns-in-Ok-clause-out : goal.returns-in-Ok-clause-out
returns-in-Ok-clause-out c =
    let k = taken (goal.at.returns-in-Ok-clause-out c).After-slot-slot in
    c.is_own_out-said.ensures ∙ (sym (own_has c.self.inside.env c.args.ticket c.slot-slot.result.now.uncollected) ∙ ap (has c.args.ticket) (sym (posted_is _ _ _ _ _ k)))
