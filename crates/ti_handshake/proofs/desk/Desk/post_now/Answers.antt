use Rattle.ti_handshake.proofs.Desks.{Took, took, may_call, has_room, may_keep, asks, told, ticket_fresh}
use Rattle.std.proofs.Common.{refl, ◌∙◌}
use Rattle.ti_handshake.specs.Call.{ticket_told}
use Rattle.ti_cell.proofs.Calls.{asked_keeps}
use Rattle.ti_handshake.specs.Desk.{DeskState}
use Rattle.ti_handshake.proofs.Cancelling.{given_there, posted_given, seat_again, ticket_out}
use Rattle.ti_handshake.proofs.desk.Desk.post_now.Goals.{After-slot-slot}
use Rattle.ti_handshake.proofs.desk.Desk.post_now.Goals as goal

-- the slot that the desk took
taken : (c : After-slot-slot) → Took c.args.self.now c.self.inside.env c.in-Some-take.seat c.in-Ok.hold c.slot-slot.result.now
taken c = took _ _ _ _ _ _ _ c.in-Ok.hold _ c.self.invariant c.self.view_is c.in-Some-take.is c.take.ensures.value c.in-Ok.ensures.view c.in-Ok.ensures.taken c.slot-slot.ensures.value

pub ask-said-requires-clause-calls : goal.ask-said-requires-clause-calls
ask-said-requires-clause-calls c =
    let k = taken (goal.at.ask-said-requires-clause-calls c).After-slot-slot in
    may_call _ _ _ _ _ k c.requires.calls

pub ask-said-requires-clause-room : goal.ask-said-requires-clause-room
ask-said-requires-clause-room c = λ w.
    let k = taken (goal.at.ask-said-requires-clause-room c).After-slot-slot in
    has_room _ _ _ _ _ k (c.requires.room w)

pub store_quietly-requires-clause-keeps : goal.store_quietly-requires-clause-keeps
store_quietly-requires-clause-keeps c =
    let k = taken (goal.at.store_quietly-requires-clause-keeps c).After-slot-slot in
    may_keep _ _ _ _ c.slot-slot.result.now c.ask-said.new.self k (asked_keeps c.slot-slot.result.now c.ask-said.new.self _ _ _ c.ask-said.ensures.asked)

pub invariant_of-self : goal.invariant_of-self
invariant_of-self c =
    let i = c.self.inside in
    let k = taken (goal.at.invariant_of-self c).After-slot-slot in
    let hold = asks _ _ _ _ _ _ _ _ _ k c.ask-said.ensures.asked c.store_quietly.ensures.view c.store_quietly.ensures.legal c.store_quietly.ensures.mine in
    let given = posted_given i.cancelled.tickets c.args.self.now.view.posted (ticket_told c.ask-said.result) c.store_quietly.result.view.posted (given_there i.cell i.env i.seat i.cancelled c.args.self.now c.self.invariant c.self.view_is) hold.waits.posted in
    seat_again i.cell i.env i.seat i.cancelled i.cancelled.tickets c.args.self.now c.store_quietly.result c.self.invariant c.self.view_is
    (c.store_quietly.ensures.cell ∙ c.in-Ok.ensures.cell ∙ c.deref.ensures) hold.waits.goes.number hold.waits.goes.subject given

pub returns-in-Ok-clause-hold : goal.returns-in-Ok-clause-hold
returns-in-Ok-clause-hold c =
    let k = taken (goal.at.returns-in-Ok-clause-hold c).After-slot-slot in
    asks _ _ _ _ _ _ _ _ _ k c.ask-said.ensures.asked c.store_quietly.ensures.view c.store_quietly.ensures.legal c.store_quietly.ensures.mine

pub returns-in-Ok-clause-out : goal.returns-in-Ok-clause-out
returns-in-Ok-clause-out c =
    let k = taken (goal.at.returns-in-Ok-clause-out c).After-slot-slot in
    let hold = asks _ _ _ _ _ _ _ _ _ k c.ask-said.ensures.asked c.store_quietly.ensures.view c.store_quietly.ensures.legal c.store_quietly.ensures.mine in
    let told_here = told _ _ _ _ _ _ _ _ _ k c.ask-said.ensures.asked (ticket_fresh c.slot-slot.result.now c.self.inside.env c.tickets.ensures.known) c.store_quietly.ensures.view in
    let now : DeskState = record { cell = c.self.inside.cell; env = c.self.inside.env; view = c.store_quietly.result.view; cancelled = c.self.inside.cancelled.tickets; former = c.self.inside.cancelled.former } in
    ticket_out c.args.self.now.view c.store_quietly.result.view c.args.self.now.env c.args.call c.ask-said.result c.self.inside.cancelled.tickets now (given_there _ _ _ _ _ c.self.invariant c.self.view_is) hold.waits.posted told_here refl refl

pub returns-in-Ok-clause-told : goal.returns-in-Ok-clause-told
returns-in-Ok-clause-told c =
    let k = taken (goal.at.returns-in-Ok-clause-told c).After-slot-slot in
    told _ _ _ _ _ _ _ _ _ k c.ask-said.ensures.asked (ticket_fresh c.slot-slot.result.now c.self.inside.env c.tickets.ensures.known) c.store_quietly.ensures.view
