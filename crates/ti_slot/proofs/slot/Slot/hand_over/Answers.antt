use Rattle.std.proofs.Common.{◌≡◌, refl, ◌+◌, ◌++◌, ◌∷◌, [], length, arith, ap, sym, ◌∙◌}
use Rattle.ti_types.specs.declared.entry.Entry.TheVariants.{Hand}
use Rattle.ti_replay.specs.LateTickets.{steps_of}
use Rattle.ti_slot.specs.Refusal.{hand_refusal}
use Rattle.ti_slot.specs.Slot.{Shelf}
use Rattle.ti_slot.specs.Thread.{Thread}
use Rattle.ti_slot.proofs.CallLaws.{Runs, runs_on, ran_room, room_behind, entry_behind, refusal_is, Hands, hands_here}
use Rattle.ti_slot.proofs.WholeLaws.{hand_whole, served_thread, awaited_here}
use Rattle.ti_slot.proofs.slot.Slot.hand_over.Goals.{After-len, After-refusal_of_hand, In_default, After-push}
use Rattle.ti_slot.proofs.HandOverLaws.{one_more, count_bounded}
use Rattle.ti_slot.proofs.slot.Slot.hand_over.Goals as goal

-- the thread goes on by its logged steps
runs : (c : After-len) → Runs c.self.inside c.args.log.now.steps
runs c = runs_on c.self.inside _ c.args.log.now.steps c.self.invariant.0 c.self.view_is c.requires.running c.requires.steps

-- what refuses the hand-over is what the definitions have
refused : (c : After-refusal_of_hand) → hand_refusal c.args.self.now.limits (c.args.self.now.history ++ steps_of c.args.log.now.steps) c.args.safe ≡ c.refusal_of_hand.result
refused c = refusal_is c.self.inside _ c.args.log.now.steps c.args.safe c.args.frames c.len.result _ c.self.view_is (runs (goal.at.After-refusal_of_hand c).After-len) c.requires.frames c.len.ensures.len c.refusal_of_hand.ensures

-- and what is not refused may come
hands : (c : In_default) → Hands c.self.inside c.args.log.now.steps c.args.safe c.args.frames
hands c =
    let p = goal.at.In_default c in
    hands_here c.self.inside _ c.args.log.now.steps c.args.safe c.args.frames c.self.invariant.0 c.self.view_is (runs p.After-len) c.requires.frames (refused p.After-refusal_of_hand ∙ c.in_default.is) c.requires.armed

pushed : (c : After-push) → c.push.new.history.items ≡ (c.self.inside.history.items ++ steps_of c.args.log.now.steps) ++ Hand c.args.safe ∷ []
pushed c = entry_behind c.args.log.now.steps _ (Hand c.args.safe) _ _ _ c.steps.ensures.items c.push_steps.ensures.items c.push.ensures.items

pub overflow_add-own : goal.overflow_add-own
overflow_add-own c = omega (arith, (runs c).few, c.len.ensures.len, c.self.inside.limits.in_range)

pub refusal_of_hand-requires : goal.refusal_of_hand-requires
refusal_of_hand-requires c = omega (arith, (runs (goal.at.refusal_of_hand-requires c).After-len).few, c.len.ensures.len)

pub returns-in-Some-clause-when : goal.returns-in-Some-clause-when
returns-in-Some-clause-when c = refused (goal.at.returns-in-Some-clause-when c).After-refusal_of_hand ∙ c.in-Some.is

pub push_steps-requires : goal.push_steps-requires
push_steps-requires c =
    let k = hands (goal.at.push_steps-requires c).In_default in
    record {
      room = omega (arith, ran_room c.self.inside c.args.log.now.steps (Hand c.args.safe) k.ran k.may, ap length c.steps.ensures.items);
      kept = c.steps.ensures.kept ∙ (c.requires.kept ∙ (sym (ap (λ (t : Thread). t.limits.kept) c.self.view_is) ∙ sym (ap (λ (z : Shelf). z.kept) c.self.invariant.0.room)));
    }

pub push-requires : goal.push-requires
push-requires c =
    let k = hands (goal.at.push-requires c).In_default in
    room_behind c.self.inside c.args.log.now.steps _ (Hand c.args.safe) c.push_steps.new.history k.ran k.may c.steps.ensures.items c.push_steps.ensures.items c.push_steps.ensures.shelf

pub overflow_add-self : goal.overflow_add-self
overflow_add-self c = omega (arith, (runs (goal.at.overflow_add-self c).After-len).few, c.len.ensures.len, c.self.inside.limits.in_range, c.own_cost.ensures.small)

pub overflow_add-self-2 : goal.overflow_add-self-2
overflow_add-self-2 c = omega (arith, count_bounded c.self.inside c.self.invariant)

pub invariant_of-self : goal.invariant_of-self
invariant_of-self c =
    let i = c.self.inside in
    let p = goal.at.invariant_of-self c in
    let whole =
    hand_whole i _ c.args.log.now.steps c.args.safe c.args.frames c.serve.new.frames c.push.new.history c.serve.new.condition (i.own + c.len.result + c.own_cost.result) c.serve.new.ops c.self.invariant c.self.view_is (hands p.In_default)
    (pushed p.After-push) (c.push.ensures.shelf ∙ c.push_steps.ensures.shelf) c.serve.ensures.depth (omega (arith, c.len.ensures.len, c.own_cost.ensures.cost))
    c.serve.ensures.view c.serve.ensures.waiting c.serve.ensures.given c.serve.ensures.window in
    (whole.0, whole.1, one_more i c.args.log.now.steps c.args.safe c.push.new.history.items c.self.invariant (pushed p.After-push))

pub returns-clause-when : goal.returns-clause-when
returns-clause-when c = refused (goal.at.returns-clause-when c).After-refusal_of_hand ∙ c.in_default.is

pub returns-clause-legal : goal.returns-clause-legal
returns-clause-legal c = (invariant_of-self c).0.legal

pub returns-clause-thread : goal.returns-clause-thread
returns-clause-thread c =
    served_thread c.self.inside _ c.args.log.now.steps (Hand c.args.safe) _ c.push.new.history.items c.serve.new.ops c.self.invariant c.self.view_is refl (pushed (goal.at.returns-clause-thread c).After-push) c.serve.ensures.given

pub serve-requires-clause-awaited : goal.serve-requires-clause-awaited
serve-requires-clause-awaited c = awaited_here c.self.inside.ops.statuses c.self.inside.ops.waiting c.self.invariant.1.awaited
