use Rattle.std.proofs.Common.{◌≡◌, map, drop}
use Rattle.serde_json.specs.View.{view}
use Rattle.ti_script.specs.Lives.{threads_given}
use Rattle.ti_script.proofs.EventLaws.{after}
use Rattle.ti_script.proofs.agent_call.threads_given.Given as goal

abbrev pub invariant-loop-value : goal.invariant-loop-value
invariant-loop-value l = after l.threads (threads_given l.cast l.fn.spot (map view (drop l.value-index l.values))) ≡ threads_given l.cast l.fn.spot (map view l.values)
