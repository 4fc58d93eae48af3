-- What was read of a thread: its sample, with its state and its frames.
use Rattle.std.specs.Prelude.{ℕ, ◌==◌, List, [], ◌∷◌, Option, Some, None, String, if◌then◌else◌, slice_get}
use Rattle.std.specs.Global.{Global}
use Rattle.std.specs.Option.{option_map}
use Rattle.std.specs.String.{string_bytes}
use Rattle.ti_pprof.specs.declared.stacks.Frame.{Frame}
use Rattle.ti_pprof.specs.declared.stacks.Node.{Node}
use Rattle.ti_pprof.specs.declared.table.Row.{Row}
use Rattle.ti_pprof.specs.Stacks.{stack_at, stacks_of}
use Rattle.ti_monitor.specs.declared.reading.Seen.{Seen}

-- the first sample of the thread at this place
abbrev pub row_of : List Row → ℕ → Option Row
row_of [] thread = None
row_of (row ∷ rows) thread = if row.thread == thread then Some row else row_of rows thread

-- the text at a place
abbrev pub text_at : List (String Global) → ℕ → Option (List ℕ)
text_at texts place = option_map string_bytes (slice_get texts place)

-- the text of a thread's state: that of its sample, or without a sample the one in which it was last seen
abbrev pub state_of : List (String Global) → Option Row → Seen → Option (List ℕ)
state_of states None seen = text_at states seen.state
state_of states (Some row) seen = text_at states row.state

-- the frames of a sample, the newest first
abbrev pub frames_in : List Node → Option Row → List Frame
frames_in nodes None = []
frames_in nodes (Some row) = stack_at (stacks_of nodes) row.stack
