use Rattle.std.proofs.Common.{◌≡◌}
use Rattle.ti_agent.specs.Quiesced.{MayQuiesce}
use Rattle.ti_agent.proofs.env.Env.clear_desk.Given as goal

abbrev pub invariant-loop : goal.invariant-loop
invariant-loop g l = MayQuiesce l.fn.self.env l.self.env l.thread × (l.self.home ≡ l.fn.self.home)
