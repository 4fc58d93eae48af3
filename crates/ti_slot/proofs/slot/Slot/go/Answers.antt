use Rattle.std.proofs.Common.{refl, arith}
use Rattle.ti_types.specs.declared.entry.Entry.TheVariants.{Go}
use Rattle.ti_types.specs.declared.event.Event.TheVariants as event
use Rattle.ti_slot.proofs.CallLaws.{Comes, go_comes, let_go, view_is}
use Rattle.ti_slot.proofs.WholeLaws.{plain_after, held_thread}
use Rattle.ti_slot.proofs.slot.Slot.go.Goals.{Else-not-held}
use Rattle.ti_slot.proofs.HandOverLaws.{count_stays}
use Rattle.ti_slot.proofs.slot.Slot.go.Goals as goal

goes : (c : Else-not-held) → Comes c.self.inside (Go c.args.env)
goes c = go_comes c.self.inside _ c.args.env c.self.invariant.0 c.self.view_is c.requires (grind arith)

pub push-requires : goal.push-requires
push-requires c = (goes (goal.at.push-requires c).Else-not-held).room

pub invariant_of-self : goal.invariant_of-self
invariant_of-self c = (
  let_go c.self.inside c.args.env c.push.new.history c.self.invariant.0 (goes (goal.at.invariant_of-self c).Else-not-held).may c.push.ensures.items c.push.ensures.shelf,
  plain_after c.self.inside (Go c.args.env) c.push.new.history.items c.self.invariant refl c.push.ensures.items,
  count_stays c.self.inside (Go c.args.env) c.push.new.history.items c.self.invariant refl c.push.ensures.items,
)

pub returns-clause-legal : goal.returns-clause-legal
returns-clause-legal c = (invariant_of-self c).0.legal

pub returns-clause-thread : goal.returns-clause-thread
returns-clause-thread c = held_thread c.self.inside _ (event.Go c.args.env) (Go c.args.env) c.push.new.history.items c.self.view_is refl c.push.ensures.items (grind (arith, view_is c.self.inside c.self.invariant.0))
