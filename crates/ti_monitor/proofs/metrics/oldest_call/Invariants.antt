use Rattle.std.specs.Prelude.{◌≡◌, drop, max}
use Rattle.ti_monitor.specs.Watching.{oldest_call}
use Rattle.ti_monitor.proofs.metrics.oldest_call.Given as goal

abbrev pub invariant-loop-one : goal.invariant-loop-one
invariant-loop-one l = max l.oldest (oldest_call l.now (drop l.one-index l.watched)) ≡ oldest_call l.now l.watched
