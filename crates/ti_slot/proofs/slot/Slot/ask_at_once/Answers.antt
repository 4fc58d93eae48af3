use Rattle.std.proofs.Common.{refl, arith}
use Rattle.ti_types.specs.declared.entry.Entry.TheVariants.{Asked}
use Rattle.ti_slot.proofs.CallLaws.{may_call}
use Rattle.ti_slot.proofs.WholeLaws.{Asks, asks_now, lists_here, now_keeps, now_off, now_told, now_whole, where_they_are}
use Rattle.ti_slot.proofs.slot.Slot.ask_at_once.Goals.{After-asked-no}
use Rattle.ti_slot.proofs.HandOverLaws.{count_stays}
use Rattle.ti_slot.proofs.slot.Slot.ask_at_once.Goals as goal

pub asked-no-requires : goal.asked-no-requires
asked-no-requires c = omega (arith, lists_here c.self.inside c.self.invariant, (may_call c.self.inside _ c.args.env c.self.view_is c.requires.env c.requires.calls).0)

-- the call may be asked, with the number of statuses that are there
asks : (c : After-asked-no) → Asks c.self.inside c.args.env c.asked-no.result c.args.call
asks c = asks_now c.self.inside _ c.args.env c.asked-no.result c.args.call c.self.invariant c.self.view_is c.requires.env c.requires.calls c.requires.at_once c.asked-no.ensures

pub push-requires : goal.push-requires
push-requires c = (asks (goal.at.push-requires c).After-asked-no).comes.room

pub set-requires : goal.set-requires
set-requires c = now_keeps c.args.call c.requires.at_once

pub pass-requires : goal.pass-requires
pass-requires c =
    let a = asks (goal.at.pass-requires c).After-asked-no in
    record { env = a.listed; fits = omega (arith, a.next, a.left, c.self.inside.limits.in_range) }

pub invariant_of-self : goal.invariant_of-self
invariant_of-self c =
    let whole =
    now_whole c.self.inside c.args.env c.asked-no.result c.args.call c.push.new.history c.set.new.condition c.self.inside.frames c.pass.new.self c.self.invariant (asks (goal.at.invariant_of-self c).After-asked-no)
    (now_off c.args.call _ c.requires.at_once) c.push.ensures.items c.push.ensures.shelf (λ others. c.set.ensures _) (where_they_are c.self.inside.frames) c.pass.ensures in
    (whole.0, whole.1, count_stays c.self.inside (Asked c.args.env c.asked-no.result c.args.call) c.push.new.history.items c.self.invariant refl c.push.ensures.items)

pub returns-clause-asked : goal.returns-clause-asked
returns-clause-asked c =
    now_told c.self.inside _ c.args.env c.asked-no.result c.args.call c.push.new.history.items c.pass.new.self c.answer_at_once-told.result c.self.invariant c.self.view_is (asks (goal.at.returns-clause-asked c).After-asked-no)
    (now_off c.args.call _ c.requires.at_once) c.push.ensures.items c.pass.ensures (λ others. c.answer_at_once-told.ensures _)

pub returns-clause-legal : goal.returns-clause-legal
returns-clause-legal c = (invariant_of-self c).0.legal
