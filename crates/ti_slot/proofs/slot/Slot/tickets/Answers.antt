use Rattle.std.proofs.Common.{◌≡◌, ◌==◌, ◌&&◌, true, nat_lt, subst, sym, ◌∙◌, arith}
use Rattle.ti_types.specs.declared.event.Ticket.{Ticket}
use Rattle.ti_replay.specs.Legal.{asked_by}
use Rattle.ti_slot.specs.Thread.{Thread}
use Rattle.ti_slot.specs.Waiting.{said_in}
use Rattle.ti_slot.specs.Tickets.{has, asked_in, AreOnce}
use Rattle.ti_slot.proofs.TicketLaws.{open_once, has-open}
use Rattle.ti_slot.proofs.WholeLaws.{few_here}
use Rattle.ti_slot.proofs.slot.Slot.tickets.Goals as goal

pub returns-clause-once : goal.returns-clause-once
returns-clause-once c =
    let i = c.self.inside in
    subst (λ (z : Thread). AreOnce z.uncollected) c.self.view_is (open_once (said_in i.ops.statuses) (asked_in i.number i.history.items) c.self.invariant.1.once)

pub returns-clause-few : goal.returns-clause-few
returns-clause-few c env = few_here c.self.inside _ env c.self.invariant c.self.view_is

pub returns-clause-known : goal.returns-clause-known
returns-clause-known c =
    let i = c.self.inside in
    subst (λ (z : Thread). (k : Ticket) → has k z.uncollected ≡ true → (k.thread.0 == z.number.0 && nat_lt k.no (asked_by k.env z.history)) ≡ true) c.self.view_is
    (λ k h.
    let both = sym (has-open k (said_in i.ops.statuses) (asked_in i.number i.history.items)) ∙ h in
    sym (c.self.invariant.1.listed k) ∙ grind (arith, both))
