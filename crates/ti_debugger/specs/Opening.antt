-- How the session of a debugger begins.
use Rattle.std.specs.Prelude.{ℕ, ◌≡◌, Bool, true, false, not, Option, Some, None}
use Rattle.ti_jdwp.specs.Notes.{Begins}
use Rattle.ti_jdwp.specs.Talks.{Talk, opened}
use Rattle.ti_debugger.specs.Debuggers.{DebuggerValue}

-- The session is told that the runtime begins, as of the first thread that is there. While none is there, or if it is lost, the runtime
-- waits for the next debugger.
abbrev pub OpensAs : Bool → Option ℕ → Talk → Bool → Type 0
OpensAs false first s starts = (s ≡ opened) × (starts ≡ false)
OpensAs true None s starts = (s ≡ opened) × (starts ≡ true)
OpensAs true (Some thread) s starts = (is_noted : Bool) × Begins thread opened is_noted s × (starts ≡ not is_noted)

abbrev pub Opens : Bool → Option ℕ → DebuggerValue → Type 0
Opens starts first new = (s : Talk) × (new.session ≡ Some s) × OpensAs starts first s new.starts
