use Rattle.std.proofs.Common.{[], List, is_some, if◌then◌else◌, subst}
use Rattle.ti_types.specs.declared.event.Ticket.{Ticket}
use Rattle.ti_slot.specs.Tickets.{without_ticket}
use Rattle.ti_handshake.specs.Call.{WaitsWith}
use Rattle.ti_handshake.proofs.Holding.{waits_with}
use Rattle.ti_handshake.proofs.desk.Desk.collect_within.Goals as goal

pub returns-then-is_some-clause-hold : goal.returns-then-is_some-clause-hold
returns-then-is_some-clause-hold g c =
    let waited = c.loop.invariant.1 in
    subst (λ (l : List Ticket). WaitsWith c.args.self.now.view c.try_collect-found.new.self.view [] (if is_some c.try_collect-found.result then without_ticket c.args.ticket l else l)) waited.posted
    (waits_with c.args.self.now.view c.loop.self.view c.try_collect-found.new.self.view [] _ waited c.try_collect-found.ensures.hold.waits)
