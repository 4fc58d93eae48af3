use Rattle.std.proofs.Common.{rules, ◌≡◌, ◌<◌, ◌+◌, length, ap, arith, subst, sym, ◌∙◌}
use Rattle.ti_types.specs.declared.error.TiError.{TiError}
use Rattle.ti_agent.specs.Gathering.{Gathered, IsBarred, with_desk_at}
use Rattle.ti_agent.specs.declared.gathering.Phase.TheVariants as phase
use Rattle.ti_agent.proofs.AtWork.{barred, not_seen, seen}
use Rattle.ti_agent.proofs.Barred.{if_err, look_barred}
use Rattle.ti_agent.specs.HousedTrace.{envs_of}
use Rattle.ti_agent.proofs.AtHome.{same_trace}
use Rattle.ti_agent.proofs.gathering.Gathering.see_next.Given.{Over}
use Rattle.ti_agent.proofs.gathering.Gathering.see_next.Goals.{After-index}
use Rattle.ti_agent.proofs.gathering.Gathering.see_next.Goals as goal

-- the trace as its fields have it
abbrev trace : (g : Over) (c : After-index g) → Gathered
trace g c = record { began = envs_of c.self.inside.began.items; now = record { env = c.self.inside.env; state = c.self.inside.state; desks = c.self.inside.desks }; stopping = c.self.inside.stopping.items; places = c.self.inside.places.items; max_count = c.self.inside.max_count; is_alive_only = c.self.inside.is_alive_only; bufs = c.self.inside.bufs.items; infos = c.self.inside.infos.items; phase = c.self.inside.phase }

is : (g : Over) (c : After-index g) → (trace g c).phase ≡ phase.Seeing c.args.seen
is g c = ap (λ (z : Gathered). z.phase) (same_trace c.self.view_is) ∙ c.requires.at

within : (g : Over) (c : After-index g) → c.args.seen < length (trace g c).stopping
within g c = subst (λ (z : Gathered). c.args.seen < length z.stopping) (sym (same_trace c.self.view_is)) c.requires.next

pub returns-in_err-see_one_now-clause-why : goal.returns-in_err-see_one_now-clause-why
returns-in_err-see_one_now-clause-why g c =
    let l = (goal.at.returns-in_err-see_one_now-clause-why g c).After-index in
    let x = c.index.result.now in
    let q = c.see_one_now.new.desk in
    let e : TiError = c.in_err-see_one_now.field-0.0 in
    let new : Gathered = with_desk_at (trace g l) x.0.0 q in
    let why : IsBarred (trace g l) new e = look_barred (trace g l) c.self.invariant.0 c.args.seen x c.index_mut.result.now q e (is g l) (within g l) c.index.ensures c.index_mut.ensures.value c.in_err-see_one_now.ensures.runs in
    if_err (λ (d : TiError). IsBarred c.args.self.now.trace new d) c.from_residual.result e (search rules) (subst (λ (z : Gathered). IsBarred z new e) (same_trace c.self.view_is) why)

pub invariant_of-self : goal.invariant_of-self
invariant_of-self g c =
    let l = (goal.at.invariant_of-self g c).After-index in (
      not_seen (trace g l) c.self.invariant.0 c.args.seen c.index.result.now c.index_mut.result.now c.see_one_now.new.desk (is g l) (within g l) c.index.ensures c.index_mut.ensures.value
          (barred c.index_mut.result.now c.see_one_now.new.desk _ c.in_err-see_one_now.ensures.runs),
      c.self.invariant.1,
      c.self.invariant.2,
    )

pub invariant_of-self-2 : goal.invariant_of-self-2
invariant_of-self-2 g c =
    let l = (goal.at.invariant_of-self-2 g c).After-index in (
      seen (trace g l) c.self.invariant.0 c.args.seen (c.args.seen + 1) c.index.result.now c.index_mut.result.now c.see_one_now.new.desk (is g l) (within g l) (omega arith) c.index.ensures c.index_mut.ensures.value
          c.in_ok-see_one_now.ensures.stands,
      c.self.invariant.1,
      c.self.invariant.2,
    )
