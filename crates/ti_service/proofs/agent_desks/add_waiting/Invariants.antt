use Rattle.std.proofs.Common.{length}
use Rattle.ti_service.specs.Meeting.{Adds}
use Rattle.ti_service.specs.Memberships.{state_of}
use Rattle.ti_service.proofs.agent_desks.add_waiting.Given as goal

abbrev pub invariant-loop-desk : goal.invariant-loop-desk
invariant-loop-desk l = Adds (state_of l.fn.agent) (state_of l.agent)

abbrev pub decreases-loop-desk : goal.decreases-loop-desk
decreases-loop-desk l = length l.agent.home.waiting.items
