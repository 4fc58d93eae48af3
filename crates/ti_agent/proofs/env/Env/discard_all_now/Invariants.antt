use Rattle.std.proofs.Common.{◌≡◌, length}
use Rattle.ti_agent.specs.Deadlines.{DiscardsEach}
use Rattle.ti_agent.specs.Quiesced.{AllCancelledAt, MayQuiesce}
use Rattle.ti_agent.specs.Resumed.{cancelled_at}
use Rattle.ti_agent.proofs.env.Env.discard_all_now.Given as goal

abbrev pub invariant-loop : goal.invariant-loop
invariant-loop g l = MayQuiesce l.fn.self.env l.self.env l.thread × (l.self.home ≡ l.fn.self.home) × (AllCancelledAt l.fn.self.env l.thread → AllCancelledAt l.self.env l.thread) × DiscardsEach l.fn.self.env l.self.env l.thread

abbrev pub decreases-loop : goal.decreases-loop
decreases-loop g l = length (cancelled_at l.self.env l.thread)
