use Rattle.std.proofs.Common.{ap, ◌≡◌, ℕ, slice_get, sym, subst, arith, ◌∙◌}
use Rattle.ti_agent.specs.Env.{Environment, out_of, outstanding, place_in}
use Rattle.ti_agent.specs.Home.{Housed}
use Rattle.ti_service.specs.LettingGo.{LetsGo}
use Rattle.ti_service.specs.Memberships.{state_of}
use Rattle.ti_service.specs.declared.membership.Membership.{Membership}
use Rattle.ti_agent.proofs.AtHome.{same_env, same_if_none}
use Rattle.ti_service.proofs.Homes.{agent_with}
use Rattle.ti_service.proofs.Leaving.{goes}
use Rattle.ti_service.proofs.Tries.{held_or_busy, looked_home}
use Rattle.ti_service.proofs.letting_go.let_go_at_now.Goals as goal

pub invariant_of-agent : goal.invariant_of-agent
invariant_of-agent c =
    let at = c.agent.inside in
    let s : Environment = record { env = at.env; state = at.state; desks = at.desks } in
    let live = c.is_live_now in
    (c.agent.invariant.0, looked_home at.home.service live.new.self s at.home.waiting.items (held_or_busy at.home.service live.new.self live.result live.ensures.hold live.ensures.busy) c.agent.invariant.1)

pub invariant_of-agent-then-there : goal.invariant_of-agent-then-there
invariant_of-agent-then-there c =
    let at = c.agent.inside in
    let s : Environment = record { env = at.env; state = at.state; desks = at.desks } in
    let live = c.is_live_now in
    (c.agent.invariant.0, looked_home at.home.service live.new.self s at.home.waiting.items (held_or_busy at.home.service live.new.self live.result live.ensures.hold live.ensures.busy) c.agent.invariant.1)

pub invariant_of-agent-2 : goal.invariant_of-agent-2
invariant_of-agent-2 c =
    let at = c.agent.inside in
    let s : Environment = record { env = at.env; state = at.state; desks = at.desks } in
    let live = c.is_live_now in
    (c.agent.invariant.0, looked_home at.home.service live.new.self s at.home.waiting.items (held_or_busy at.home.service live.new.self live.result live.ensures.hold live.ensures.busy) c.agent.invariant.1)

pub returns-clause-steps : goal.returns-clause-steps
returns-clause-steps c =
    let at = c.agent.inside in
    let s : Environment = record { env = at.env; state = at.state; desks = at.desks } in
    let live = c.is_live_now in
    let same = same_env c.agent.view_is in
    let place : c.args.index ≡ place_in s.desks c.args.thread = c.requires.place ∙ ap (λ (e : Environment). place_in e.desks c.args.thread) (sym same) in
    let none : outstanding s c.args.thread ≡ 0 = omega (arith, c.if-out_by_index-gt0.false, c.out_by_index.ensures, ap (λ (e : Environment). out_of (slice_get e.desks c.args.index)) same, ap (λ (i : ℕ). out_of (slice_get s.desks i)) place) in
    let waits = at.home.waiting.items in
    let left = c.take_by_index.ensures in
    let goes_on = goes (agent_with at.home.service s waits at.home.events at.home.unmet) live.new.self c.take_by_index.new.self.env c.args.thread c.args.index c.take_by_index.result c.is_some.result place c.is_some.ensures none c.in_ok-there.ensures.hold c.in_ok-there.ensures.cell (sym c.in_ok-there.ensures.live ∙ c.if-there.false) left.taken left.nobody (same_if_none _ _ c.take_by_index.result left.unchanged) in
    let home : Membership = c.take_by_index.new.self.home in
    let from = subst (λ (m : Membership). LetsGo (agent_with at.home.service s waits at.home.events at.home.unmet) (agent_with m.service c.take_by_index.new.self.env m.waiting.items m.events m.unmet) c.args.thread c.is_some.result) (sym left.home) goes_on in
    subst (λ (x : Housed Membership). LetsGo (state_of x) (state_of c.take_by_index.new.self) c.args.thread c.is_some.result) c.agent.view_is from
