use Rattle.std.proofs.Common.{◌≡◌, ◌<◌, ◌+◌, length, ap, arith, subst, sym, ◌∙◌}
use Rattle.ti_agent.specs.Gathering.{Gathered}
use Rattle.ti_agent.specs.declared.gathering.Phase.TheVariants as phase
use Rattle.ti_agent.proofs.AtWork.{go_stands, gone, stays}
use Rattle.ti_agent.specs.HousedTrace.{envs_of}
use Rattle.ti_agent.proofs.AtHome.{same_trace}
use Rattle.ti_agent.proofs.gathering.Gathering.go_next.Given.{Over}
use Rattle.ti_agent.proofs.gathering.Gathering.go_next.Goals.{After-index}
use Rattle.ti_agent.proofs.gathering.Gathering.go_next.Goals as goal

-- the trace as its fields have it
abbrev trace : (g : Over) (c : After-index g) → Gathered
trace g c = record { began = envs_of c.self.inside.began.items; now = record { env = c.self.inside.env; state = c.self.inside.state; desks = c.self.inside.desks }; stopping = c.self.inside.stopping.items; places = c.self.inside.places.items; max_count = c.self.inside.max_count; is_alive_only = c.self.inside.is_alive_only; bufs = c.self.inside.bufs.items; infos = c.self.inside.infos.items; phase = c.self.inside.phase }

is : (g : Over) (c : After-index g) → (trace g c).phase ≡ phase.LettingGo c.args.gone
is g c = ap (λ (z : Gathered). z.phase) (same_trace c.self.view_is) ∙ c.requires.at

within : (g : Over) (c : After-index g) → c.args.gone < length (trace g c).stopping
within g c = subst (λ (z : Gathered). c.args.gone < length z.stopping) (sym (same_trace c.self.view_is)) c.requires.next

pub go_one_now-requires : goal.go_one_now-requires
go_one_now-requires g c =
    let l = (goal.at.go_one_now-requires g c).After-index in
    record { stands = go_stands (trace g l) c.self.invariant.0 c.args.gone c.index.result.now c.index_mut.result.now (is g l) (within g l) c.index.ensures c.index_mut.ensures.value }

pub invariant_of-self : goal.invariant_of-self
invariant_of-self g c =
    let l = (goal.at.invariant_of-self g c).After-index in
    (stays (trace g l) c.self.invariant.0 c.index.result.now.0.0 c.index_mut.result.now c.go_one_now.new.desk c.index_mut.ensures.value c.in_err-go_one_now.ensures.busy.1, c.self.invariant.1, c.self.invariant.2)

pub invariant_of-self-2 : goal.invariant_of-self-2
invariant_of-self-2 g c =
    let l = (goal.at.invariant_of-self-2 g c).After-index in (
      gone (trace g l) c.self.invariant.0 c.args.gone (c.args.gone + 1) c.index.result.now c.index_mut.result.now c.go_one_now.new.desk (is g l) (within g l) (omega arith) c.index.ensures c.index_mut.ensures.value
          c.in_ok-go_one_now.ensures.gone,
      c.self.invariant.1,
      c.self.invariant.2,
    )
