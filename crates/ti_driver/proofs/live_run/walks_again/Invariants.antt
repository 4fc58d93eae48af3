use Rattle.std.proofs.Common.{◌≡◌, ◌++◌, drop}
use Rattle.ti_driver.proofs.live_run.walks_again.Given as goal

abbrev pub invariant-loop-walk : goal.invariant-loop-walk
invariant-loop-walk l = l.copy ++ drop l.walk-index l.walks ≡ l.walks
