use Rattle.std.proofs.Common.{◌≡◌, refl, ◌+◌, ◌++◌, ◌∷◌, [], true, length, arith, ap, sym, ◌∙◌}
use Rattle.ti_types.specs.declared.entry.Entry.TheVariants.{End}
use Rattle.ti_replay.specs.Legal.{may_follow}
use Rattle.ti_replay.specs.LateTickets.{steps_of}
use Rattle.ti_slot.specs.Slot.{Shelf}
use Rattle.ti_slot.specs.Thread.{Thread}
use Rattle.ti_slot.proofs.CallLaws.{Runs, runs_on, ran_room, room_behind, entry_behind, may_end}
use Rattle.ti_slot.proofs.WholeLaws.{end_whole, served_thread, awaited_here}
use Rattle.ti_slot.proofs.slot.Slot.end.Goals.{After-len, After-push}
use Rattle.ti_slot.proofs.HandOverLaws.{count_stays_behind}
use Rattle.ti_slot.proofs.slot.Slot.end.Goals as goal

-- the thread goes on by its logged steps, and may end then
runs : (c : After-len) → Runs c.self.inside c.args.log.now.steps
runs c = runs_on c.self.inside _ c.args.log.now.steps c.self.invariant.0 c.self.view_is c.requires.running c.requires.steps

may : (c : After-len) → may_follow c.self.inside.limits (c.self.inside.history.items ++ steps_of c.args.log.now.steps) End ≡ true
may c = may_end c.self.inside c.args.log.now.steps (runs c).ran (runs c).runs

pushed : (c : After-push) → c.push.new.history.items ≡ (c.self.inside.history.items ++ steps_of c.args.log.now.steps) ++ End ∷ []
pushed c = entry_behind c.args.log.now.steps _ End _ _ _ c.steps.ensures.items c.push_steps.ensures.items c.push.ensures.items

pub overflow_add-own : goal.overflow_add-own
overflow_add-own c = omega (arith, (runs c).few, c.len.ensures.len, c.self.inside.limits.in_range)

pub push_steps-requires : goal.push_steps-requires
push_steps-requires c =
    let l = (goal.at.push_steps-requires c).After-len in
    record {
      room = omega (arith, ran_room c.self.inside c.args.log.now.steps End (runs l).ran (may l), ap length c.steps.ensures.items);
      kept = c.steps.ensures.kept ∙ (c.requires.kept ∙ (sym (ap (λ (t : Thread). t.limits.kept) c.self.view_is) ∙ sym (ap (λ (z : Shelf). z.kept) c.self.invariant.0.room)));
    }

pub push-requires : goal.push-requires
push-requires c =
    let l = (goal.at.push-requires c).After-len in
    room_behind c.self.inside c.args.log.now.steps _ End c.push_steps.new.history (runs l).ran (may l) c.steps.ensures.items c.push_steps.ensures.items c.push_steps.ensures.shelf

pub invariant_of-self : goal.invariant_of-self
invariant_of-self c =
    let i = c.self.inside in
    let p = goal.at.invariant_of-self c in
    let whole =
    end_whole i _ c.args.log.now.steps c.args.frames c.clear.new.self c.serve.new.frames c.push.new.history c.serve.new.condition (i.own + c.len.result) c.serve.new.ops c.self.invariant c.self.view_is (runs p.After-len).ran (may p.After-len)
    (pushed p.After-push) (c.push.ensures.shelf ∙ c.push_steps.ensures.shelf) c.clear.ensures c.serve.ensures.depth (omega (arith, c.len.ensures.len))
    c.serve.ensures.view c.serve.ensures.waiting c.serve.ensures.given c.serve.ensures.window in
    (whole.0, whole.1, count_stays_behind i c.args.log.now.steps End c.push.new.history.items c.self.invariant refl (pushed p.After-push))

pub returns-clause-legal : goal.returns-clause-legal
returns-clause-legal c = (invariant_of-self c).0.legal

pub returns-clause-thread : goal.returns-clause-thread
returns-clause-thread c =
    served_thread c.self.inside _ c.args.log.now.steps End _ c.push.new.history.items c.serve.new.ops c.self.invariant c.self.view_is refl (pushed (goal.at.returns-clause-thread c).After-push) c.serve.ensures.given

pub serve-requires-clause-awaited : goal.serve-requires-clause-awaited
serve-requires-clause-awaited c = awaited_here c.self.inside.ops.statuses c.self.inside.ops.waiting c.self.invariant.1.awaited
