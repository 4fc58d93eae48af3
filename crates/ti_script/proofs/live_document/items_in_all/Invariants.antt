use Rattle.std.proofs.Common.{◌≡◌, ◌+◌, ◌≤◌, map, drop}
use Rattle.serde_json.specs.View.{view}
use Rattle.ti_script.specs.Lives.{count_in_all}
use Rattle.ti_script.proofs.live_document.items_in_all.Given as goal

abbrev pub invariant-loop-value : goal.invariant-loop-value
invariant-loop-value l = record {
  few : l.count ≤ 65536;
  left : l.count + count_in_all (map view (drop l.value-index l.values)) ≡ count_in_all (map view l.values);
}
