use Rattle.std.proofs.Common.{refl, arith, sym, ◌∙◌}
use Rattle.ti_types.specs.declared.entry.Entry.TheVariants.{Stop}
use Rattle.ti_types.specs.declared.event.Event.TheVariants as event
use Rattle.ti_slot.proofs.CallLaws.{Comes, stop_comes, stopped, view_is}
use Rattle.ti_slot.proofs.WholeLaws.{plain_after, held_thread}
use Rattle.ti_slot.proofs.slot.Slot.stop.Goals.{Else-is_some}
use Rattle.ti_slot.proofs.HandOverLaws.{count_stays}
use Rattle.ti_slot.proofs.slot.Slot.stop.Goals as goal

stops : (c : Else-is_some) → Comes c.self.inside (Stop c.args.env)
stops c = stop_comes c.self.inside _ c.args.env c.self.invariant.0 c.self.view_is c.requires.env c.requires.calls (sym c.is_some.ensures ∙ c.if-is_some.false)

pub push-requires : goal.push-requires
push-requires c = (stops (goal.at.push-requires c).Else-is_some).room

pub invariant_of-self : goal.invariant_of-self
invariant_of-self c = (
  stopped c.self.inside c.args.env c.push.new.history c.self.invariant.0 (stops (goal.at.invariant_of-self c).Else-is_some).may c.push.ensures.items c.push.ensures.shelf,
  plain_after c.self.inside (Stop c.args.env) c.push.new.history.items c.self.invariant refl c.push.ensures.items,
  count_stays c.self.inside (Stop c.args.env) c.push.new.history.items c.self.invariant refl c.push.ensures.items,
)

pub returns-clause-legal : goal.returns-clause-legal
returns-clause-legal c = (invariant_of-self c).0.legal

pub returns-clause-thread : goal.returns-clause-thread
returns-clause-thread c = held_thread c.self.inside _ (event.Stop c.args.env) (Stop c.args.env) c.push.new.history.items c.self.view_is refl c.push.ensures.items (grind (arith, view_is c.self.inside c.self.invariant.0))
