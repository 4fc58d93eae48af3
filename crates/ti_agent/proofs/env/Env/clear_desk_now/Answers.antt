use Rattle.std.proofs.Common.{◌<◌, arith, length, rules, subst, sym}
use Rattle.ti_agent.specs.Desks.{IsCleared}
use Rattle.ti_agent.specs.Env.{place_in}
use Rattle.ti_agent.specs.FreeDesk.{FreeState}
use Rattle.ti_agent.proofs.Emptying.{cleared_then, emptied_there}
use Rattle.ti_agent.proofs.Quiescing.{quiesced_there}
use Rattle.ti_agent.proofs.env.Env.clear_desk_now.Given.{Over}
use Rattle.ti_agent.proofs.env.Env.clear_desk_now.Goals.{In-Ok}
use Rattle.ti_agent.proofs.env.Env.clear_desk_now.Goals as goal

-- the desk is there, once nothing is out
there : (g : Over) (c : In-Ok g) → place_in c.settle_now.new.self.env.desks c.args.thread < length c.settle_now.new.self.env.desks
there g c =
    let here : place_in c.args.self.now.env.desks c.args.thread < length c.args.self.now.env.desks = search rules in
    quiesced_there c.args.self.now.env c.settle_now.new.self.env c.args.thread c.settle_now.ensures.steps here

pub empty_now-requires-clause-there : goal.empty_now-requires-clause-there
empty_now-requires-clause-there g c = there g (goal.at.empty_now-requires-clause-there g c).In-Ok

pub unreachable-requires : goal.unreachable-requires
unreachable-requires g c =
    let gone = emptied_there c.settle_now.new.self.env c.empty_now.new.self.env c.args.thread c.in-Ok-empty_now.ensures.emptied (there g (goal.at.unreachable-requires g c).In-Ok) in
    omega (arith, c.in_default.ensures.nobody, gone)

pub returns-clause-cleared : goal.returns-clause-cleared
returns-clause-cleared g c = (
  c.settle_now.new.self.env,
  c.settle_now.ensures.steps,
  subst (λ (f : FreeState). IsCleared c.settle_now.new.self.env c.take_desk.new.self.env c.args.thread f) (sym c.leave.ensures)
      (cleared_then c.settle_now.new.self.env c.empty_now.new.self.env c.take_desk.new.self.env c.args.thread c.in-Some.free c.in-Ok.ensures.quiet c.in-Ok-empty_now.ensures.emptied c.in-Some.ensures.taken),
)
