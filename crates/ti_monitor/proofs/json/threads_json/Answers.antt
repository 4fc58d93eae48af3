use Rattle.std.proofs.Common.{◌≡◌, false, ◌∙◌, ap}
use Rattle.std.specs.Prelude.{Result, Ok, Err, IfOk, String}
use Rattle.std.specs.Global.{Global}
use Rattle.std.specs.String.{string_bytes}
use Rattle.serde_json.specs.Data.{Data}
use Rattle.serde_json.specs.Written.{compact_text, has_float}
use Rattle.serde_json.specs.View.{view}
use Rattle.ti_monitor.specs.Json.{threads_data}
use Rattle.ti_monitor.proofs.JsonLaws.{all_plain}
use Rattle.ti_monitor.proofs.json.threads_json.Goals as goal

texts : {E : Type 0} (r : Result (String Global) E) (d e : Data) → d ≡ e → has_float e ≡ false
    → IfOk r (λ s. has_float d ≡ false → string_bytes s ≡ compact_text d) → IfOk r (λ s. string_bytes s ≡ compact_text e)
texts (Ok s) d e same plain h = h (ap has_float same ∙ plain) ∙ ap compact_text same
texts (Err x) d e same plain h = tt

pub returns : goal.returns
returns c = texts c.to_string.result (view c.in_ok-value.value) (threads_data c.args.reading.now) c.in_ok-value.ensures (all_plain c.args.reading.now) c.to_string.ensures.text
