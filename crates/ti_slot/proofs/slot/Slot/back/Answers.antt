use Rattle.std.proofs.Common.{refl, arith, sym, ◌∙◌}
use Rattle.ti_types.specs.declared.entry.Entry.TheVariants.{Back}
use Rattle.ti_slot.proofs.CallLaws.{Comes, back_comes, returned, frames_go, runs_returned}
use Rattle.ti_slot.proofs.WholeLaws.{plain_after, plain_thread}
use Rattle.ti_slot.proofs.slot.Slot.back.Goals.{Else-is_some}
use Rattle.ti_slot.proofs.HandOverLaws.{count_stays}
use Rattle.ti_slot.proofs.slot.Slot.back.Goals as goal

comes_back : (c : Else-is_some) → Comes c.self.inside Back
comes_back c = back_comes c.self.inside c.self.invariant.0 (sym c.is_safe.ensures ∙ c.if-not-is_safe.false) c.if-self.false (sym c.is_some.ensures ∙ c.if-is_some.false)

pub push-requires : goal.push-requires
push-requires c = (comes_back (goal.at.push-requires c).Else-is_some).room

pub invariant_of-self : goal.invariant_of-self
invariant_of-self c = (
  rw c.take.ensures.after (returned c.self.inside c.push.new.history c.self.invariant.0 (comes_back (goal.at.invariant_of-self c).Else-is_some).may (sym c.is_safe.ensures ∙ c.if-not-is_safe.false) c.push.ensures.items c.push.ensures.shelf),
  plain_after c.self.inside Back c.push.new.history.items c.self.invariant refl c.push.ensures.items,
  count_stays c.self.inside Back c.push.new.history.items c.self.invariant refl c.push.ensures.items,
)

pub returns-clause-frames : goal.returns-clause-frames
returns-clause-frames c = frames_go c.self.inside _ Back c.push.new.history.items c.in-Some.frames c.self.invariant.0 c.self.view_is (sym c.take.ensures.value ∙ c.in-Some.is) c.push.ensures.items (grind arith)

pub returns-clause-legal : goal.returns-clause-legal
returns-clause-legal c = (invariant_of-self c).0.legal

pub returns-clause-thread : goal.returns-clause-thread
returns-clause-thread c = plain_thread c.self.inside _ Back c.push.new.history.items c.self.view_is refl c.push.ensures.items

pub returns-clause-runs : goal.returns-clause-runs
returns-clause-runs c = runs_returned c.self.inside.limits c.self.inside.history.items c.push.new.history.items c.push.ensures.items
