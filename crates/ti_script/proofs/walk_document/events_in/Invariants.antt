use Rattle.std.proofs.Common.{◌≡◌, ◌+◌, map, drop}
use Rattle.serde_json.specs.View.{view}
use Rattle.ti_script.specs.Walks.{events_in}
use Rattle.ti_script.proofs.EventLaws.{after}
use Rattle.ti_script.proofs.walk_document.events_in.Given as goal

abbrev pub invariant-loop-value : goal.invariant-loop-value
invariant-loop-value l = record {
  number : l.item ≡ l.value-index + 1;
  same : after l.list (events_in l.cast l.item (map view (drop l.value-index l.items))) ≡ events_in l.cast 1 (map view l.items);
}
