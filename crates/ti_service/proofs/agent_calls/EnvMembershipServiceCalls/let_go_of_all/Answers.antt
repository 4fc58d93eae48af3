use Rattle.std.proofs.Common.{◌≡◌, ◌-◌, ℕ, suc, arith}
use Rattle.ti_agent.specs.Env.{thread_at}
use Rattle.ti_service.specs.Agent.{AgentState}
use Rattle.ti_service.specs.Memberships.{state_of}
use Rattle.ti_service.proofs.Leaving.{goes_on, one_goes}
use Rattle.ti_service.proofs.agent_calls.EnvMembershipServiceCalls.let_go_of_all.Goals as goal

pub loop-index-preserved : goal.loop-index-preserved
loop-index-preserved g c =
    let at : AgentState = state_of c.loop-index.self in
    let mid : AgentState = state_of c.let_go_at-gone.new.agent in
    let n : ℕ = c.loop-index.index - 1 in
    let step = c.let_go_at-gone.ensures.steps in
    let is : c.loop-index.index ≡ suc n = omega (arith, c.loop-index-test.true) in
    let thread : c.in-Some.thread ≡ thread_at at.env.desks n = c.in-Some.ensures.thread in (
      omega (arith, one_goes at mid c.in-Some.thread c.let_go_at-gone.result step, c.loop-index.invariant.0, is),
      λ new below. c.loop-index.invariant.1 new (goes_on n c.loop-index.index at mid c.in-Some.thread c.let_go_at-gone.result is thread step new below),
    )
