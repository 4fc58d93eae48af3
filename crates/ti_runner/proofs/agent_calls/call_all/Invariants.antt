use Rattle.std.proofs.Common.{◌≡◌}
use Rattle.ti_agent.specs.Env.{cells_at}
use Rattle.ti_runner.proofs.agent_calls.call_all.Given as goal

abbrev pub invariant-loop-call : goal.invariant-loop-call
invariant-loop-call g l = cells_at l.env.env.desks ≡ cells_at l.fn.env.env.desks
