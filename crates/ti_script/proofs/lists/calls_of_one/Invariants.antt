use Rattle.std.proofs.Common.{◌≡◌, ◌+◌, map, drop}
use Rattle.serde_json.specs.View.{view}
use Rattle.ti_script.specs.Lives.{calls_of_one}
use Rattle.ti_script.proofs.EventLaws.{after}
use Rattle.ti_script.proofs.lists.calls_of_one.Given as goal

abbrev pub invariant-loop-value : goal.invariant-loop-value
invariant-loop-value l = record {
  number : l.item ≡ l.fn.first + l.value-index;
  same : after l.list (calls_of_one l.cast l.fn.agent l.item (map view (drop l.value-index l.values))) ≡ calls_of_one l.cast l.fn.agent l.fn.first (map view l.values);
}
