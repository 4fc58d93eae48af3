use Rattle.std.proofs.Common.{◌≡◌, map, drop}
use Rattle.serde_json.specs.View.{view}
use Rattle.ti_types.specs.Caps.{no_caps}
use Rattle.ti_script.specs.Head.{text_in}
use Rattle.ti_script.specs.Events.{caps_named}
use Rattle.ti_script.proofs.element.caps_named.Given as goal

abbrev pub invariant-loop-value : goal.invariant-loop-value
invariant-loop-value l = caps_named l.caps (map text_in (map view (drop l.value-index l.values))) ≡ caps_named no_caps (map text_in (map view l.values))
