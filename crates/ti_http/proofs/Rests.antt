-- What a phase rules out still is, once more of the output was taken.
use Rattle.std.proofs.Common.{◌≡◌, ℕ, ◌+◌, List, [], drop, rules, sym, ap, ◌∙◌}
use Rattle.std.proofs.lemmas.List.{drop-drop}
use Rattle.ti_http.specs.declared.connection.Phase.{Phase}
use Rattle.ti_http.specs.declared.connection.Phase.TheVariants as phase
use Rattle.ti_http.specs.Talks.{Rests}

pub nothing_left : (count : ℕ) → drop {A = ℕ} count [] ≡ []
nothing_left count = search rules

still_nothing : (out : List ℕ) (sent count : ℕ) → drop sent out ≡ [] → drop (sent + count) out ≡ []
still_nothing out sent count h = sym (drop-drop count sent out) ∙ ap (drop count) h ∙ nothing_left count

pub rests_dropped : (p : Phase) (input out : List ℕ) (asked sent count : ℕ) → Rests p input (drop sent out) asked → Rests p input (drop (sent + count) out) asked
rests_dropped phase.Reading input out asked sent count h = h
rests_dropped (phase.Waiting manner) input out asked sent count h = still_nothing out sent count h
rests_dropped phase.Closing input out asked sent count h = h
rests_dropped phase.Closed input out asked sent count h = (h.0, still_nothing out sent count h.1)
