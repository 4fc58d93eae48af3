use Rattle.std.proofs.Common.{◌≡◌, ◌-◌, ℕ, suc, arith}
use Rattle.ti_agent.specs.Env.{thread_at}
use Rattle.ti_service.specs.Agent.{AgentState}
use Rattle.ti_service.specs.Memberships.{state_of}
use Rattle.ti_service.proofs.Leaving.{goes_on, one_goes}
use Rattle.ti_service.proofs.Meetings.{some_more}
use Rattle.ti_service.proofs.agent_tries.EnvMembershipServiceTries.let_go_of_all_now.Goals as goal

pub loop-index-preserved : goal.loop-index-preserved
loop-index-preserved c =
    let at : AgentState = state_of c.loop-index.self in
    let mid : AgentState = state_of c.let_go_at_now.new.agent in
    let n : ℕ = c.loop-index.index - 1 in
    let step = c.in_ok-_gone.ensures.steps in
    let is : c.loop-index.index ≡ suc n = omega (arith, c.loop-index-test.true) in
    let thread : c.in-Some.thread ≡ thread_at at.env.desks n = c.in-Some.ensures.thread in (
      omega (arith, one_goes at mid c.in-Some.thread c.in_ok-_gone._gone step, c.loop-index.invariant.0, is),
      λ new below. c.loop-index.invariant.1 new (goes_on n c.loop-index.index at mid c.in-Some.thread c.in_ok-_gone._gone is thread step new below),
      λ new some. c.loop-index.invariant.2 new (some_more at mid new c.in-Some.thread c.in_ok-_gone._gone step some),
    )
