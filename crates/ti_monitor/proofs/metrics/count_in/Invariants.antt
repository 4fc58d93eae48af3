use Rattle.std.specs.Prelude.{◌≡◌, count_by, take}
use Rattle.ti_monitor.specs.Watching.{is_in_state}
use Rattle.ti_monitor.proofs.metrics.count_in.Given as goal

abbrev pub invariant-loop-one : goal.invariant-loop-one
invariant-loop-one l = l.count ≡ count_by (is_in_state l.place) (take l.one-index l.watched)
