use Rattle.std.proofs.Common.{None, Some, subst}
use Rattle.ti_types.specs.declared.event.Ticket.{Ticket}
use Rattle.ti_slot.specs.Thread.{Thread}
use Rattle.ti_slot.specs.Tickets.{IsNextOut}
use Rattle.ti_slot.proofs.WholeLaws.{none_out, first_out}
use Rattle.ti_slot.proofs.slot.Slot.next_out.Goals as goal

pub returns-in-None : goal.returns-in-None
returns-in-None c =
    let i = c.self.inside in
    subst (λ (z : Thread). IsNextOut z.number z.uncollected c.args.env c.args.from None) c.self.view_is
    (λ past. none_out i c.args.env c.args.from past c.self.invariant (λ n above below. c.in-None.ensures n above))

pub returns-in-Some : goal.returns-in-Some
returns-in-Some c =
    let i = c.self.inside in
    let t : Ticket = record { env = c.args.env; thread = i.number; no = c.in-Some.no } in
    subst (λ (z : Thread). IsNextOut z.number z.uncollected c.args.env c.args.from (Some t)) c.self.view_is
    (first_out i c.args.env c.args.from c.in-Some.no c.self.invariant c.in-Some.ensures)
