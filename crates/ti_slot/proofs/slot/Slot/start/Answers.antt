use Rattle.std.proofs.Common.{refl, arith, sym, ◌∙◌}
use Rattle.ti_types.specs.declared.entry.Entry.TheVariants.{Start}
use Rattle.ti_slot.proofs.CallLaws.{Comes, start_comes, started, frames_go, runs_started}
use Rattle.ti_slot.proofs.WholeLaws.{plain_after, plain_thread}
use Rattle.ti_slot.proofs.slot.Slot.start.Goals.{Else-is_some}
use Rattle.ti_slot.proofs.HandOverLaws.{count_stays}
use Rattle.ti_slot.proofs.slot.Slot.start.Goals as goal

starts : (c : Else-is_some) → Comes c.self.inside Start
starts c = start_comes c.self.inside c.self.invariant.0 (sym c.is_new.ensures ∙ c.if-not-is_new.false) (sym c.is_some.ensures ∙ c.if-is_some.false)

pub push-requires : goal.push-requires
push-requires c = (starts (goal.at.push-requires c).Else-is_some).room

pub invariant_of-self : goal.invariant_of-self
invariant_of-self c = (
  rw (c.take.ensures.after, c.take-2.ensures.after) (started c.self.inside c.push.new.history c.self.invariant.0 (starts (goal.at.invariant_of-self c).Else-is_some).may c.push.ensures.items c.push.ensures.shelf),
  plain_after c.self.inside Start c.push.new.history.items c.self.invariant refl c.push.ensures.items,
  count_stays c.self.inside Start c.push.new.history.items c.self.invariant refl c.push.ensures.items,
)

pub returns-clause-frames : goal.returns-clause-frames
returns-clause-frames c = frames_go c.self.inside _ Start c.push.new.history.items c.in-Some.frames c.self.invariant.0 c.self.view_is (sym c.take.ensures.value ∙ c.in-Some.is) c.push.ensures.items (grind arith)

pub returns-clause-legal : goal.returns-clause-legal
returns-clause-legal c = (invariant_of-self c).0.legal

pub returns-clause-thread : goal.returns-clause-thread
returns-clause-thread c = plain_thread c.self.inside _ Start c.push.new.history.items c.self.view_is refl c.push.ensures.items

pub returns-clause-runs : goal.returns-clause-runs
returns-clause-runs c = runs_started c.self.inside.limits c.self.inside.history.items c.push.new.history.items c.push.ensures.items
