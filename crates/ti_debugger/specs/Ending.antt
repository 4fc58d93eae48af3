-- How the session of a debugger ends where the runtime ends.
use Rattle.std.specs.Prelude.{◌≡◌, Bool, Option, Some, None}
use Rattle.ti_jdwp.specs.Notes.{Dies}
use Rattle.ti_jdwp.specs.Talks.{Talk}
use Rattle.ti_debugger.specs.declared.asked.Asked.TheVariants.{Nothing}
use Rattle.ti_debugger.specs.declared.due.Due.{Due}
use Rattle.ti_debugger.specs.declared.due.Due.TheVariants as due
use Rattle.ti_debugger.specs.Debuggers.{DebuggerValue}

-- Nothing is due any more, but for a suspension that is still to be posted.
abbrev pub due_at_end : Option Due → Option Due
due_at_end None = None
due_at_end (Some (due.Answer request)) = None
due_at_end (Some due.List) = None
due_at_end (Some (due.Post thread)) = Some (due.Post thread)
due_at_end (Some due.Settle) = None
due_at_end (Some (due.Place spot)) = None
due_at_end (Some (due.Locate thread)) = None

abbrev EndsAs : Option Talk → DebuggerValue → DebuggerValue → Type 0
EndsAs None old new = new ≡ old
EndsAs (Some s) old new =
    (is_told : Bool) × (s' : Talk) × Dies s is_told s' × (new ≡ record old { session = Some s'; due = due_at_end old.due; asked = Nothing })

-- The session is told that the runtime ends, and the runtime is asked nothing more. Without a debugger nothing changes.
abbrev pub RuntimeEnds : DebuggerValue → DebuggerValue → Type 0
RuntimeEnds old new = EndsAs old.session old new
