-- Where a call takes memory. Every other call succeeds.
use Rattle.std.specs.Prelude.{◌≡◌, ℕ, ◌-◌, Bool, true, not, ◌&&◌, [], length, nat_lt, ◌==◌, is_err}
use Rattle.ti_http.specs.declared.connection.Phase.{Phase}
use Rattle.ti_http.specs.declared.connection.Phase.TheVariants as phase
use Rattle.ti_http.specs.declared.head.Seen.{Seen}
use Rattle.ti_http.specs.declared.head.Seen.TheVariants as seen
use Rattle.ti_http.specs.Heads.{Sees}
use Rattle.ti_http.specs.Talks.{Talk, is_reading}

-- the peer ends within a head
abbrev pub is_cut : Talk → Bool
is_cut t = t.ended && not (length t.input == 0)

-- what the input begins with is refused
abbrev pub is_refused : Talk → Seen → Bool
is_refused t seen.More = is_cut t
is_refused t (seen.Broken r) = true
is_refused t (seen.Whole w) = is_err w.outcome

abbrev pub ReadTakes : Talk → Type 0
ReadTakes t = (s : Seen) × Sees t.hosts t.input s × (is_refused t s ≡ true)

abbrev pub TakesIn : Phase → Talk → Type 0
TakesIn phase.Reading t = ReadTakes t
TakesIn (phase.Waiting manner) t = ⊥
TakesIn phase.Closing t = ⊥
TakesIn phase.Closed t = ⊥

-- `next` writes a refusal
abbrev pub Takes : Talk → Type 0
Takes t = (t.output ≡ []) × TakesIn t.phase t

-- `tick` writes the 408 of a head that does not end
abbrev pub is_late : Talk → ℕ → Bool
is_late t now = ((length t.output == 0) && is_reading t.phase) && (not (length t.input == 0) && not (nat_lt (now - t.since) 5000))
