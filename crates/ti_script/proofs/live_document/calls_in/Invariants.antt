use Rattle.std.proofs.Common.{◌≡◌, ◌+◌, map, drop}
use Rattle.serde_json.specs.View.{view}
use Rattle.ti_script.specs.Lives.{count_in_all, calls_in}
use Rattle.ti_script.proofs.EventLaws.{after}
use Rattle.ti_script.proofs.live_document.calls_in.Given as goal

abbrev pub invariant-loop-value : goal.invariant-loop-value
invariant-loop-value l = record {
  number : l.number ≡ l.value-index;
  left : l.item + count_in_all (map view (drop l.value-index l.values)) ≡ l.fn.first + count_in_all (map view l.values);
  same : after l.lists (calls_in l.cast l.number l.item (map view (drop l.value-index l.values))) ≡ calls_in l.cast 0 l.fn.first (map view l.values);
}
