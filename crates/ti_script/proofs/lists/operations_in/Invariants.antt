use Rattle.std.proofs.Common.{◌≡◌, ◌+◌, map, drop}
use Rattle.serde_json.specs.View.{view}
use Rattle.ti_script.specs.Lives.{operations_in}
use Rattle.ti_script.proofs.EventLaws.{after}
use Rattle.ti_script.proofs.lists.operations_in.Given as goal

abbrev pub invariant-loop-value : goal.invariant-loop-value
invariant-loop-value l = record {
  number : l.item ≡ l.fn.first + l.value-index;
  same : after l.list (operations_in l.cast l.fn.thread l.item (map view (drop l.value-index l.values))) ≡ operations_in l.cast l.fn.thread l.fn.first (map view l.values);
}
