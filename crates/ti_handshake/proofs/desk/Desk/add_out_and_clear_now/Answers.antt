use Rattle.std.proofs.Common.{[], ◌∷◌, List, refl, subst}
use Rattle.ti_types.specs.declared.call.Call.TheVariants.{SetWord}
use Rattle.ti_types.specs.declared.event.Ticket.{Ticket}
use Rattle.ti_cell.proofs.Calls.{asked_keeps}
use Rattle.ti_handshake.specs.Call.{HoldsWith, next_call}
use Rattle.ti_handshake.proofs.Desks.{Took, took, may_call, may_keep, asks}
use Rattle.ti_handshake.proofs.Tries.{no_ticket}
use Rattle.ti_handshake.proofs.desk.Desk.add_out_and_clear_now.Goals.{After-slot-slot}
use Rattle.ti_handshake.proofs.desk.Desk.add_out_and_clear_now.Goals as goal

-- the slot that the desk took
taken : (c : After-slot-slot) → Took c.args.self.now c.self.inside.env c.in-Some.seat c.in-Ok.hold c.slot-slot.result.now
taken c = took _ _ _ _ _ _ _ c.in-Ok.hold _ c.self.invariant c.self.view_is c.in-Some.is c.take.ensures.value c.in-Ok.ensures.view c.in-Ok.ensures.taken c.slot-slot.ensures.value

pub ask-requires-clause-calls : goal.ask-requires-clause-calls
ask-requires-clause-calls c =
    let k = taken (goal.at.ask-requires-clause-calls c).After-slot-slot in
    may_call _ _ _ _ _ k c.requires.calls

pub store_quietly-requires-clause-keeps : goal.store_quietly-requires-clause-keeps
store_quietly-requires-clause-keeps c =
    let k = taken (goal.at.store_quietly-requires-clause-keeps c).After-slot-slot in
    may_keep _ _ _ _ c.slot-slot.result.now c.ask.new.self k (asked_keeps c.slot-slot.result.now c.ask.new.self _ _ _ c.ask.ensures.asked)

pub returns-in-Ok-clause-hold : goal.returns-in-Ok-clause-hold
returns-in-Ok-clause-hold c =
    let k = taken (goal.at.returns-in-Ok-clause-hold c).After-slot-slot in
    let p = c.args.self.now in
    let hold = asks _ _ _ _ _ _ _ _ _ k c.ask.ensures.asked c.store_quietly.ensures.view c.store_quietly.ensures.legal c.store_quietly.ensures.mine in
    subst (λ (l : List Ticket). HoldsWith p.view c.store_quietly.result.view (next_call p.view p.env (SetWord 0) ∷ []) l) (no_ticket (SetWord 0) c.ask.result p.view.posted refl c.ask.ensures.late) hold
