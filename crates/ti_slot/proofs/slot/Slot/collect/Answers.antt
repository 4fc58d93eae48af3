use Rattle.std.proofs.Common.{◌≡◌, ap, ◌∙◌, subst, if◌then◌else◌, is_some, None, arith, false, refl}
use Rattle.std.specs.Option.{option_map}
use Rattle.ti_types.specs.Answer.{said}
use Rattle.ti_slot.specs.Thread.{Thread, with_tickets}
use Rattle.ti_slot.specs.Inside.{thread_in}
use Rattle.ti_slot.specs.Tickets.{has, without_ticket}
use Rattle.ti_replay.specs.Tickets.{reply_to}
use Rattle.ti_slot.proofs.WholeLaws.{less_after, less_stands, less_open, collected, collected_none}
use Rattle.ti_slot.proofs.slot.Slot.collect.Goals as goal

pub invariant_of-self : goal.invariant_of-self
invariant_of-self c =
    let i = c.self.inside in (
      less_stands i c.collect.new.self _ c.self.invariant.0 c.collect.ensures.statuses,
      less_after i c.args.ticket c.collect.new.self c.collect.result c.self.invariant c.collect.ensures.answer c.collect.ensures.statuses,
      c.self.invariant.2,
    )

pub returns-clause-answer : goal.returns-clause-answer
returns-clause-answer c =
    let t = c.args.ticket in
    subst (λ (z : Thread). option_map said c.collect.result ≡ (if has t z.uncollected then reply_to z.limits z.history t else None)) c.self.view_is
    (collected c.self.inside t c.collect.result c.self.invariant (omega arith) c.collect.ensures.answer)

pub returns-clause-thread : goal.returns-clause-thread
returns-clause-thread c =
    let i = c.self.inside in
    let t = c.args.ticket in
    let r = c.collect.result in
    ap (λ ts. with_tickets (thread_in i) ts) (less_open i t c.collect.new.self r c.self.invariant (omega arith) c.collect.ensures.answer c.collect.ensures.statuses)
    ∙ ap (λ (z : Thread). with_tickets z (if is_some r then without_ticket t z.uncollected else z.uncollected)) c.self.view_is

pub returns-then-ticket-self-clause-answer : goal.returns-then-ticket-self-clause-answer
returns-then-ticket-self-clause-answer c =
    let i = c.self.inside in
    let t = c.args.ticket in
    let none : has t (thread_in i).uncollected ≡ false = collected_none i t c.self.invariant c.if-ticket-self.true in
    subst (λ (z : Thread). None ≡ (if has t z.uncollected then reply_to z.limits z.history t else None)) c.self.view_is (rw none refl)
