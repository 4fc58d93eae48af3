use Rattle.std.proofs.Common.{◌≡◌, List, Option, Some, ap, refl, arith, subst, sym, ◌∙◌}
use Rattle.ti_types.specs.declared.entry.Entry.TheVariants.{Asked}
use Rattle.ti_types.specs.declared.place.Frame.{Frame}
use Rattle.ti_types.specs.Answer.{said}
use Rattle.ti_frames.specs.Frames.{Stack}
use Rattle.ti_replay.specs.Answers.{answer_of}
use Rattle.ti_replay.specs.View.{called}
use Rattle.ti_slot.specs.Condition.{view_of, frames_or, AreWhereTheyWere}
use Rattle.ti_slot.proofs.CallLaws.{may_call}
use Rattle.ti_slot.proofs.WholeLaws.{Asks, asks_here, lists_here, now_whole, now_told, later_whole, later_told}
use Rattle.ti_slot.proofs.slot.Slot.ask.Goals.{After-asked-no, After-take_call}
use Rattle.ti_slot.proofs.HandOverLaws.{count_stays}
use Rattle.ti_slot.proofs.slot.Slot.ask.Goals as goal

pub asked-no-requires : goal.asked-no-requires
asked-no-requires c = omega (arith, lists_here c.self.inside c.self.invariant, (may_call c.self.inside _ c.args.env c.self.view_is c.requires.env c.requires.calls).0)

-- the call may be asked, with the number of statuses that are there
asks : (c : After-asked-no) → Asks c.self.inside c.args.env c.asked-no.result c.args.call
asks c = asks_here c.self.inside _ c.args.env c.asked-no.result c.args.call c.self.invariant c.self.view_is c.requires.env c.requires.calls c.requires.well_formed c.requires.room c.asked-no.ensures

pub post-requires : goal.post-requires
post-requires c =
    let a = asks (goal.at.post-requires c).After-asked-no in
    record { env = a.listed; next = a.next; fits = omega (arith, a.left, c.self.inside.limits.in_range); room = a.room (let off = sym c.is_put_off.ensures ∙ c.if-is_put_off.true in grind (arith, off)) }

pub push-requires : goal.push-requires
push-requires c = (asks (goal.at.push-requires c).After-asked-no).comes.room

pub invariant_of-self : goal.invariant_of-self
invariant_of-self c =
    let whole =
    later_whole c.self.inside _ c.args.env c.asked-no.result c.args.call c.args.buf c.push.new.history c.post.new.self c.self.invariant c.self.view_is (asks (goal.at.invariant_of-self c).After-asked-no)
    (sym c.is_put_off.ensures ∙ c.if-is_put_off.true) c.push.ensures.items c.push.ensures.shelf c.post.ensures c.requires.buf in
    (whole.0, whole.1, count_stays c.self.inside (Asked c.args.env c.asked-no.result c.args.call) c.push.new.history.items c.self.invariant refl c.push.ensures.items)

pub returns-then-is_put_off-clause-asked : goal.returns-then-is_put_off-clause-asked
returns-then-is_put_off-clause-asked c =
    later_told c.self.inside _ c.args.env c.asked-no.result c.args.call c.args.buf c.push.new.history.items c.post.new.self c.self.invariant c.self.view_is (asks (goal.at.returns-then-is_put_off-clause-asked c).After-asked-no)
    (sym c.is_put_off.ensures ∙ c.if-is_put_off.true) c.push.ensures.items c.post.ensures

pub returns-then-is_put_off-clause-legal : goal.returns-then-is_put_off-clause-legal
returns-then-is_put_off-clause-legal c = (invariant_of-self c).0.legal

pub returns-then-is_put_off-clause-late : goal.returns-then-is_put_off-clause-late
returns-then-is_put_off-clause-late c = let off = sym c.is_put_off.ensures ∙ c.if-is_put_off.true in grind (arith, off)

pub pass-requires : goal.pass-requires
pass-requires c =
    let a = asks (goal.at.pass-requires c).After-asked-no in
    record { env = a.listed; fits = omega (arith, a.next, a.left, c.self.inside.limits.in_range) }

pub push-requires-else-is_put_off : goal.push-requires-else-is_put_off
push-requires-else-is_put_off c = (asks (goal.at.push-requires-else-is_put_off c).After-asked-no).comes.room

-- what the call changes and answers, whatever others the thread may have
changed : (c : After-take_call) → (others : List Frame) → view_of c.take_call.new.condition (frames_or (Some c.take_call.new.frames) others) ≡ called (view_of c.self.inside.condition (frames_or c.self.inside.frames others)) c.args.env c.args.call
changed c others = c.take_call.ensures.view ∙ ap (λ (f : Option Stack). called (view_of c.self.inside.condition (frames_or f others)) c.args.env c.args.call) (sym c.in-Some.is)

stays : (c : After-take_call) → AreWhereTheyWere c.self.inside.frames (Some c.take_call.new.frames)
stays c = subst (λ (f : Option Stack). AreWhereTheyWere f (Some c.take_call.new.frames)) (sym c.in-Some.is) c.take_call.ensures.depth

tells : (c : After-take_call) → (others : List Frame) → said c.answer_by_frames-told.result ≡ answer_of (view_of c.self.inside.condition (frames_or c.self.inside.frames others)) c.args.env c.args.call
tells c others = c.answer_by_frames-told.ensures c.args.env ∙ ap (λ (f : Option Stack). answer_of (view_of c.self.inside.condition (frames_or f others)) c.args.env c.args.call) (sym c.in-Some.is)

pub invariant_of-self-else-is_put_off : goal.invariant_of-self-else-is_put_off
invariant_of-self-else-is_put_off c =
    let push = c.push-else-is_put_off in
    let at = goal.at.invariant_of-self-else-is_put_off c in
    let whole =
    now_whole c.self.inside c.args.env c.asked-no.result c.args.call push.new.history c.take_call.new.condition (Some c.take_call.new.frames) c.pass.new.self c.self.invariant (asks at.After-asked-no)
    (sym c.is_put_off.ensures ∙ c.if-is_put_off.false) push.ensures.items push.ensures.shelf (changed at.After-take_call) (stays at.After-take_call) c.pass.ensures in
    (whole.0, whole.1, count_stays c.self.inside (Asked c.args.env c.asked-no.result c.args.call) push.new.history.items c.self.invariant refl push.ensures.items)

pub returns-in-Some-clause-asked : goal.returns-in-Some-clause-asked
returns-in-Some-clause-asked c =
    let push = c.push-else-is_put_off in
    let at = goal.at.returns-in-Some-clause-asked c in
    now_told c.self.inside _ c.args.env c.asked-no.result c.args.call push.new.history.items c.pass.new.self c.answer_by_frames-told.result c.self.invariant c.self.view_is (asks at.After-asked-no)
    (sym c.is_put_off.ensures ∙ c.if-is_put_off.false) push.ensures.items c.pass.ensures (tells at.After-take_call)

pub returns-in-Some-clause-legal : goal.returns-in-Some-clause-legal
returns-in-Some-clause-legal c = (invariant_of-self-else-is_put_off c).0.legal
