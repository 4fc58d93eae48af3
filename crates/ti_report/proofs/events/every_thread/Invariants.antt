use Rattle.std.proofs.Common.{◌≡◌, ◌++◌, ◌-◌}
use Rattle.ti_report.specs.Doings.{every_thread, threads_from}
use Rattle.ti_report.proofs.events.every_thread.Given as goal

abbrev pub invariant-loop-n : goal.invariant-loop-n
invariant-loop-n l = l.threads.items ++ threads_from l.n (l.fn.limits.threads - l.n) ≡ every_thread l.fn.limits
