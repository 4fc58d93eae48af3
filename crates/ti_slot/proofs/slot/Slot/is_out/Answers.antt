use Rattle.std.proofs.Common.{ap, sym, ◌∙◌, arith}
use Rattle.ti_slot.specs.Thread.{Thread}
use Rattle.ti_slot.specs.Tickets.{has}
use Rattle.ti_slot.proofs.WholeLaws.{out_here, collected_none}
use Rattle.ti_slot.proofs.slot.Slot.is_out.Goals as goal

pub returns-then-ticket-self : goal.returns-then-ticket-self
returns-then-ticket-self c =
    let i = c.self.inside in
    c.is_out.ensures ∙ out_here i c.args.ticket c.self.invariant (omega (arith, c.if-ticket-self.true)) ∙ ap (λ (t : Thread). has c.args.ticket t.uncollected) c.self.view_is

pub returns-else-ticket-self : goal.returns-else-ticket-self
returns-else-ticket-self c =
    sym (collected_none c.self.inside c.args.ticket c.self.invariant c.if-ticket-self.false) ∙ ap (λ (t : Thread). has c.args.ticket t.uncollected) c.self.view_is
