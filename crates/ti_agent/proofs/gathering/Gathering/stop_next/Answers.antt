use Rattle.std.proofs.Common.{rules, ◌≡◌, ◌<◌, ◌+◌, length, ap, arith, subst, sym, ◌∙◌}
use Rattle.ti_types.specs.declared.error.TiError.{TiError}
use Rattle.ti_agent.specs.Gathering.{Gathered, IsBarred, with_desk_at}
use Rattle.ti_agent.specs.declared.gathering.Phase.TheVariants as phase
use Rattle.ti_agent.proofs.AtWork.{barred, not_stopped, stop_calls, stop_left, stop_there, stopped}
use Rattle.ti_agent.proofs.Barred.{if_err, stop_barred}
use Rattle.ti_agent.specs.HousedTrace.{envs_of}
use Rattle.ti_agent.proofs.AtHome.{same_trace}
use Rattle.ti_agent.proofs.gathering.Gathering.stop_next.Given.{Over}
use Rattle.ti_agent.proofs.gathering.Gathering.stop_next.Goals.{After-index}
use Rattle.ti_agent.proofs.gathering.Gathering.stop_next.Goals as goal

-- the trace as its fields have it
abbrev trace : (g : Over) (c : After-index g) → Gathered
trace g c = record { began = envs_of c.self.inside.began.items; now = record { env = c.self.inside.env; state = c.self.inside.state; desks = c.self.inside.desks }; stopping = c.self.inside.stopping.items; places = c.self.inside.places.items; max_count = c.self.inside.max_count; is_alive_only = c.self.inside.is_alive_only; bufs = c.self.inside.bufs.items; infos = c.self.inside.infos.items; phase = c.self.inside.phase }

is : (g : Over) (c : After-index g) → (trace g c).phase ≡ phase.Stopping c.args.stopped
is g c = ap (λ (z : Gathered). z.phase) (same_trace c.self.view_is) ∙ c.requires.at

within : (g : Over) (c : After-index g) → c.args.stopped < length (trace g c).stopping
within g c = subst (λ (z : Gathered). c.args.stopped < length z.stopping) (sym (same_trace c.self.view_is)) c.requires.next

pub stop_one_now-requires : goal.stop_one_now-requires
stop_one_now-requires g c =
    let l = (goal.at.stop_one_now-requires g c).After-index in
    record { calls = stop_calls (trace g l) c.self.invariant.0 c.args.stopped c.index.result.now c.index_mut.result.now (is g l) (within g l) c.index.ensures c.index_mut.ensures.value }

pub returns-in_err-stop_one_now-clause-why : goal.returns-in_err-stop_one_now-clause-why
returns-in_err-stop_one_now-clause-why g c =
    let l = (goal.at.returns-in_err-stop_one_now-clause-why g c).After-index in
    let x = c.index.result.now in
    let q = c.stop_one_now.new.desk in
    let e : TiError = c.in_err-stop_one_now.field-0.0 in
    let new : Gathered = with_desk_at (trace g l) x.0.0 q in
    let why : IsBarred (trace g l) new e = stop_barred (trace g l) c.self.invariant.0 c.args.stopped x c.index_mut.result.now q e (is g l) (within g l) c.index.ensures c.index_mut.ensures.value c.in_err-stop_one_now.ensures.barred in
    if_err (λ (d : TiError). IsBarred c.args.self.now.trace new d) c.from_residual.result e (search rules) (subst (λ (z : Gathered). IsBarred z new e) (same_trace c.self.view_is) why)

pub invariant_of-self : goal.invariant_of-self
invariant_of-self g c =
    let l = (goal.at.invariant_of-self g c).After-index in (
      not_stopped (trace g l) c.self.invariant.0 c.args.stopped c.index.result.now c.index_mut.result.now c.stop_one_now.new.desk (is g l) (within g l) c.index.ensures c.index_mut.ensures.value
          (barred c.index_mut.result.now c.stop_one_now.new.desk _ c.in_err-stop_one_now.ensures.barred),
      c.self.invariant.1,
      c.self.invariant.2,
    )

pub spend-requires-clause-there : goal.spend-requires-clause-there
spend-requires-clause-there g c =
    let l = (goal.at.spend-requires-clause-there g c).After-index in
    stop_there (trace g l) c.self.invariant.0 c.args.stopped c.index.result.now (is g l) (within g l) c.index.ensures

pub spend-requires-clause-left : goal.spend-requires-clause-left
spend-requires-clause-left g c =
    let l = (goal.at.spend-requires-clause-left g c).After-index in
    stop_left (trace g l) c.self.invariant.0 c.args.stopped c.index.result.now (is g l) (within g l) c.index.ensures

pub invariant_of-self-2 : goal.invariant_of-self-2
invariant_of-self-2 g c =
    let l = (goal.at.invariant_of-self-2 g c).After-index in (
      stopped (trace g l) c.self.invariant.0 c.args.stopped (c.args.stopped + 1) c.index.result.now c.index_mut.result.now c.stop_one_now.new.desk c.spend.new.self (is g l) (within g l) (omega arith) c.index.ensures c.index_mut.ensures.value
          c.in_ok-stop_one_now.ensures.stopped c.spend.ensures,
      c.self.invariant.1,
      c.self.invariant.2,
    )
