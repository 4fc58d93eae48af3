-- What labels keep of a sample's thread and state.
use Rattle.std.specs.Prelude.{ℕ}
use Rattle.ti_http.specs.declared.target.Labels.{Labels}
use Rattle.ti_http.specs.declared.target.Labels.TheVariants as labels
use Rattle.ti_monitor.specs.declared.label.Label.{Label}

abbrev pub label : ℕ → ℕ → Label
label thread state = record { thread = thread; state = state }

-- a label that is left out has the number 2^32 - 1
abbrev pub label_only : Labels → Label → Label
label_only labels.None l = label 4294967295 4294967295
label_only labels.Thread l = label l.thread 4294967295
label_only labels.State l = label 4294967295 l.state
label_only labels.ThreadAndState l = label l.thread l.state
