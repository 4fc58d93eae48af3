use Rattle.std.proofs.Common.{◌≡◌, ◌++◌, drop}
use Rattle.ti_driver.proofs.live_run.all_calls_again.Given as goal

abbrev pub invariant-loop-agent : goal.invariant-loop-agent
invariant-loop-agent l = l.copy ++ drop l.agent-index l.calls ≡ l.calls
