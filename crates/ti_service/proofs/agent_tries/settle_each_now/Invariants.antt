use Rattle.std.proofs.Common.{◌≡◌, ◌≤◌, length}
use Rattle.ti_service.specs.Leaving.{Quiets}
use Rattle.ti_service.proofs.agent_tries.settle_each_now.Given as goal

abbrev pub invariant-loop-index : goal.invariant-loop-index
invariant-loop-index l = (l.index ≤ length l.agent.env.desks) × Quiets l.fn.agent.env l.agent.env × (l.agent.home ≡ l.fn.agent.home)

abbrev pub decreases-loop-index : goal.decreases-loop-index
decreases-loop-index l = l.index
