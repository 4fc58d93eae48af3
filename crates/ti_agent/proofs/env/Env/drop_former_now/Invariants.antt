use Rattle.std.proofs.Common.{◌≡◌, length}
use Rattle.ti_agent.specs.Deadlines.{DropsAt}
use Rattle.ti_agent.specs.Resumed.{cancelled_at}
use Rattle.ti_agent.proofs.env.Env.drop_former_now.Given as goal

abbrev pub invariant-loop-thread : goal.invariant-loop-thread
invariant-loop-thread g l = DropsAt l.fn.self.env l.self.env l.thread × (l.self.home ≡ l.fn.self.home)

abbrev pub decreases-loop-thread : goal.decreases-loop-thread
decreases-loop-thread g l = length (cancelled_at l.self.env l.thread)
