use Rattle.std.proofs.Common.{◌≡◌, ◌+◌, ap, arith, rules, ◌∙◌}
use Rattle.ti_agent.specs.Gathering.{Gathered}
use Rattle.ti_agent.specs.declared.gathering.Phase.TheVariants as phase
use Rattle.ti_agent.proofs.AtWork.{again_gone, again_stops, again_there, stays}
use Rattle.ti_agent.specs.HousedTrace.{envs_of}
use Rattle.ti_agent.proofs.AtHome.{same_trace}
use Rattle.ti_agent.proofs.gathering.Gathering.go_again_next.Given.{Over}
use Rattle.ti_agent.proofs.gathering.Gathering.go_again_next.Goals.{After-index}
use Rattle.ti_agent.proofs.gathering.Gathering.go_again_next.Goals as goal

-- the trace as its fields have it
abbrev trace : (g : Over) (c : After-index g) → Gathered
trace g c = record { began = envs_of c.self.inside.began.items; now = record { env = c.self.inside.env; state = c.self.inside.state; desks = c.self.inside.desks }; stopping = c.self.inside.stopping.items; places = c.self.inside.places.items; max_count = c.self.inside.max_count; is_alive_only = c.self.inside.is_alive_only; bufs = c.self.inside.bufs.items; infos = c.self.inside.infos.items; phase = c.self.inside.phase }

is : (g : Over) (c : After-index g) → (trace g c).phase ≡ phase.GivingUp c.args.stopped c.args.gone
is g c = ap (λ (z : Gathered). z.phase) (same_trace c.self.view_is) ∙ c.requires.at

pub index_mut-requires : goal.index_mut-requires
index_mut-requires g c =
    let l = (goal.at.index_mut-requires g c).After-index in
    let h = again_there (trace g l) c.self.invariant.0 c.args.stopped c.args.gone c.index.result.now (is g l) c.requires.next c.index.ensures in
    search rules

pub go_again_now-requires : goal.go_again_now-requires
go_again_now-requires g c =
    let l = (goal.at.go_again_now-requires g c).After-index in
    record { stopped = again_stops (trace g l) c.self.invariant.0 c.args.stopped c.args.gone c.index.result.now c.index_mut.result.now (is g l) c.requires.next c.index.ensures c.index_mut.ensures.value }

pub invariant_of-self : goal.invariant_of-self
invariant_of-self g c =
    let l = (goal.at.invariant_of-self g c).After-index in
    (stays (trace g l) c.self.invariant.0 c.index.result.now.0.0 c.index_mut.result.now c.go_again_now.new.desk c.index_mut.ensures.value c.in_err-go_again_now.ensures.busy.1, c.self.invariant.1, c.self.invariant.2)

pub invariant_of-self-2 : goal.invariant_of-self-2
invariant_of-self-2 g c =
    let l = (goal.at.invariant_of-self-2 g c).After-index in (
      again_gone (trace g l) c.self.invariant.0 c.args.stopped c.args.gone (c.args.gone + 1) c.index.result.now c.index_mut.result.now c.go_again_now.new.desk (is g l) c.requires.next (omega arith) c.index.ensures c.index_mut.ensures.value
          c.in_ok-go_again_now.ensures.gone,
      c.self.invariant.1,
      c.self.invariant.2,
    )
