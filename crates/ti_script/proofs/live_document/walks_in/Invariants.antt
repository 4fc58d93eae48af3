use Rattle.std.proofs.Common.{◌≡◌, ◌+◌, map, drop}
use Rattle.serde_json.specs.View.{view}
use Rattle.ti_script.specs.Lives.{count_in_all, walks_in}
use Rattle.ti_script.proofs.EventLaws.{after}
use Rattle.ti_script.proofs.live_document.walks_in.Given as goal

abbrev pub invariant-loop-value : goal.invariant-loop-value
invariant-loop-value l = record {
  number : l.number ≡ l.value-index;
  left : l.item + count_in_all (map view (drop l.value-index l.values)) ≡ 1 + count_in_all (map view l.values);
  same : after l.lists (walks_in l.cast l.number l.item (map view (drop l.value-index l.values))) ≡ walks_in l.cast 0 1 (map view l.values);
}
