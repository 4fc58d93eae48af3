use Rattle.std.proofs.Common.{◌≡◌, Bool, false, List, None, is_some, if◌then◌else◌, ap, sym, subst, ◌∙◌}
use Rattle.ti_replay.specs.Tickets.{reply_to}
use Rattle.ti_slot.specs.Tickets.{has}
use Rattle.ti_types.specs.declared.event.Ticket.{Ticket}
use Rattle.ti_handshake.specs.Cancelled.{AreCancelled}
use Rattle.ti_handshake.proofs.Cancelling.{place_given, given_there, seat_again, out_posted, still_given}
use Rattle.ti_handshake.proofs.Desks.{Took, took, collects, collect_adds, collect_may_keep, collected, own_answered, gone_then, at_place_if}
use Rattle.ti_handshake.proofs.desk.Desk.collect_now.Goals.{After-slot-slot}
use Rattle.ti_handshake.proofs.desk.Desk.collect_now.Goals as goal

-- the slot that the desk took
taken : (c : After-slot-slot) → Took c.args.self.now c.self.inside.env c.in-Some.seat c.in-Ok.hold c.slot-slot.result.now
taken c = took _ _ _ _ _ _ _ c.in-Ok.hold _ c.self.invariant c.self.view_is c.in-Some.is c.take.ensures.value c.in-Ok.ensures.view c.in-Ok.ensures.taken c.slot-slot.ensures.value

pub store_quietly-requires-clause-adds : goal.store_quietly-requires-clause-adds
store_quietly-requires-clause-adds c =
    let k = taken (goal.at.store_quietly-requires-clause-adds c).After-slot-slot in
    collect_adds _ _ _ _ c.slot-slot.result.now c.collect_own-said.new.slot _ k c.collect_own-said.ensures.thread

pub store_quietly-requires-clause-keeps : goal.store_quietly-requires-clause-keeps
store_quietly-requires-clause-keeps c =
    let k = taken (goal.at.store_quietly-requires-clause-keeps c).After-slot-slot in
    collect_may_keep _ _ _ _ c.slot-slot.result.now c.collect_own-said.new.slot _ _ k (own_answered c.self.inside.env c.args.ticket _ _ _ c.collect_own-said.ensures.answer) c.collect_own-said.ensures.thread

pub returns-in-Ok-clause-hold : goal.returns-in-Ok-clause-hold
returns-in-Ok-clause-hold c =
    let k = taken (goal.at.returns-in-Ok-clause-hold c).After-slot-slot in
    collects _ _ _ _ c.slot-slot.result.now c.collect_own-said.new.slot _ _ _ k (own_answered c.self.inside.env c.args.ticket _ _ _ c.collect_own-said.ensures.answer) c.collect_own-said.ensures.thread c.store_quietly.ensures.view c.store_quietly.ensures.legal c.store_quietly.ensures.mine

pub returns-in-Ok-clause-answer : goal.returns-in-Ok-clause-answer
returns-in-Ok-clause-answer c =
    let k = taken (goal.at.returns-in-Ok-clause-answer c).After-slot-slot in
    let none : has c.args.ticket c.args.self.now.cancelled ≡ false = ap (has c.args.ticket) (place_given c.self.inside.cell c.self.inside.env c.self.inside.seat c.self.inside.cancelled c.args.self.now c.self.view_is) ∙ (sym c.has.ensures ∙ c.if-has.false) in
    collected _ _ _ _ c.slot-slot.result.now c.collect_own-said.new.slot _ _ _ _ k c.store_quietly.ensures.view c.collect_own-said.ensures.thread c.collect_own-said.ensures.answer
    ∙ ap (λ (b : Bool). if b then reply_to c.args.self.now.view.subject.limits c.store_quietly.result.view.seen c.args.ticket else None) (sym (out_posted c.args.self.now c.args.ticket none))

pub returns-in-Ok-clause-once : goal.returns-in-Ok-clause-once
returns-in-Ok-clause-once c =
    let k = taken (goal.at.returns-in-Ok-clause-once c).After-slot-slot in
    gone_then _ _ _ _ c.slot-slot.result.now c.store_quietly.result.view _ c.collect_own-said.result k c.tickets.ensures.once (returns-in-Ok-clause-hold c).waits.posted

pub returns-in-Ok-clause-place : goal.returns-in-Ok-clause-place
returns-in-Ok-clause-place c =
    at_place_if c.args.self.now.view.subject.limits c.store_quietly.result.view.seen c.args.ticket _ c.collect_own-said.result (returns-in-Ok-clause-hold c).waits.goes.legal (returns-in-Ok-clause-answer c)

pub invariant_of-self : goal.invariant_of-self
invariant_of-self c =
    let i = c.self.inside in
    let k = taken (goal.at.invariant_of-self c).After-slot-slot in
    let hold = collects _ _ _ _ c.slot-slot.result.now c.collect_own-said.new.slot _ _ _ k (own_answered i.env c.args.ticket _ _ _ c.collect_own-said.ensures.answer) c.collect_own-said.ensures.thread c.store_quietly.ensures.view c.store_quietly.ensures.legal c.store_quietly.ensures.mine in
    let none : has c.args.ticket i.cancelled.tickets ≡ false = sym c.has.ensures ∙ c.if-has.false in
    let given = still_given i.cancelled.tickets c.args.self.now.view.posted c.args.ticket (is_some c.collect_own-said.result) (given_there i.cell i.env i.seat i.cancelled c.args.self.now c.self.invariant c.self.view_is) none in
    seat_again i.cell i.env i.seat i.cancelled i.cancelled.tickets c.args.self.now c.store_quietly.result c.self.invariant c.self.view_is
    (c.store_quietly.ensures.cell ∙ c.in-Ok.ensures.cell ∙ c.deref.ensures) hold.waits.goes.number hold.waits.goes.subject (subst (λ (l : List Ticket). AreCancelled i.cancelled.tickets l) (sym hold.waits.posted) given)
