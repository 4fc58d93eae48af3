use Rattle.std.specs.Prelude.{◌≡◌, count_by, take}
use Rattle.ti_monitor.specs.Watching.{has_call}
use Rattle.ti_monitor.proofs.metrics.Metrics.take_calls.Given as goal

abbrev pub invariant-loop-one : goal.invariant-loop-one
invariant-loop-one l = l.count ≡ count_by has_call (take l.one-index l.watched)
