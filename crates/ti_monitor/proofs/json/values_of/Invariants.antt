use Rattle.std.specs.Prelude.{◌≡◌, ◌++◌, drop, map}
use Rattle.serde_json.specs.View.{view}
use Rattle.ti_monitor.specs.Json.{threads_at}
use Rattle.ti_monitor.proofs.json.values_of.Given as goal

abbrev pub invariant-loop-place : goal.invariant-loop-place
invariant-loop-place l =
    map view l.values.items ++ threads_at l.names l.details l.nodes l.rows l.place (drop l.place l.seen) ≡ threads_at l.names l.details l.nodes l.rows 0 l.seen
