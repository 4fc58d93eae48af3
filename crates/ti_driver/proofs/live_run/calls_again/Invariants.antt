use Rattle.std.proofs.Common.{◌≡◌, ◌++◌, drop}
use Rattle.ti_driver.proofs.live_run.calls_again.Given as goal

abbrev pub invariant-loop-call : goal.invariant-loop-call
invariant-loop-call l = l.copy ++ drop l.call-index l.calls ≡ l.calls
