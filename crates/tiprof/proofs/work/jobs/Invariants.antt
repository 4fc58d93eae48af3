use Rattle.std.proofs.Common.{◌≡◌}
use Rattle.tiprof.proofs.work.jobs.Given as goal

abbrev pub invariant-loop-done : goal.invariant-loop-done
invariant-loop-done g l = l.worker ≡ l.fn.worker
