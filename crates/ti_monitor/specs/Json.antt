-- What was read of the threads, as JSON. An object's members are in the order of their names.
use Rattle.std.specs.Prelude.{ℕ, ◌+◌, ◌-◌, ◌==◌, ◌&&◌, Bool, false, List, [], ◌∷◌, Option, Some, None, bytes_eq, codes, drop, length, map, nat_le, slice_get, unwrap_or, if◌then◌else◌}
use Rattle.std.specs.String.{string_bytes}
use Rattle.serde_json.specs.Data.{Data, array, boolean, member, no_members, null, number, object, string, unsigned}
use Rattle.serde_json.specs.Find.{of_integer}
use Rattle.serde_json.specs.View.{items_of}
use Rattle.ti_pprof.specs.declared.names.Function.{Function}
use Rattle.ti_pprof.specs.declared.names.Names.{Names}
use Rattle.ti_pprof.specs.declared.stacks.Frame.{Frame}
use Rattle.ti_pprof.specs.declared.stacks.Node.{Node}
use Rattle.ti_pprof.specs.declared.table.Row.{Row}
use Rattle.ti_monitor.specs.declared.reading.Details.{Details}
use Rattle.ti_monitor.specs.declared.reading.Reading.{Reading}
use Rattle.ti_monitor.specs.declared.reading.Seen.{Seen}
use Rattle.ti_monitor.specs.Stacks.{frames_in, row_of, state_of, text_at}
use Rattle.ti_monitor.specs.Threads.{unknown}

-- a text that is known if it is not empty
abbrev pub text_data : List ℕ → Data
text_data text = if length text == 0 then null else string text

abbrev pub line_data : ℕ → Data
line_data n = if n == 0 then null else number (unsigned n)

abbrev pub named_data : List ℕ → List ℕ → ℕ → Data
named_data name file n =
    object (member (codes "file") (text_data file) (member (codes "line") (line_data n) (member (codes "method") (string name) no_members)))

abbrev pub function_data : Option Function → ℕ → Data
function_data None n = named_data unknown [] n
function_data (Some f) n = named_data (string_bytes f.name) (string_bytes f.file) n

abbrev pub frame_data : List Function → Frame → Data
frame_data functions frame = function_data (slice_get functions frame.function) frame.line

abbrev pub frames_data : List Function → List Frame → Data
frames_data functions frames = array (items_of (map (frame_data functions) frames))

-- the text of a state ends so if the thread is suspended
abbrev pub is_suspended : List ℕ → Bool
is_suspended state = nat_le 11 (length state) && bytes_eq (drop (length state - 11) state) (codes ", suspended")

abbrev pub state_data : Option (List ℕ) → Data
state_data None = null
state_data (Some state) = string state

abbrev pub suspended_data : Option (List ℕ) → Data
suspended_data None = boolean false
suspended_data (Some state) = boolean (is_suspended state)

abbrev pub thread_data : List ℕ → Seen → Option (List ℕ) → Data → Data
thread_data name seen state frames =
    object (member (codes "frames") frames
    (member (codes "name") (string name)
    (member (codes "number") (number (unsigned seen.thread.0))
    (member (codes "priority") (number (of_integer seen.priority))
    (member (codes "state") (state_data state)
    (member (codes "suspended") (suspended_data state) no_members))))))

-- the thread at this place, with the sample that it has
abbrev pub thread_at : Names → Details → List Node → Option Row → Seen → ℕ → Data
thread_at names details nodes row seen place =
    thread_data (unwrap_or (text_at details.threads.items place) unknown) seen (state_of names.states.items row seen)
    (frames_data names.functions.items (frames_in nodes row))

-- these threads; the first one has this place
abbrev pub threads_at : Names → Details → List Node → List Row → ℕ → List Seen → List Data
threads_at names details nodes rows place [] = []
threads_at names details nodes rows place (seen ∷ more) =
    thread_at names details nodes (row_of rows place) seen place ∷ threads_at names details nodes rows (place + 1) more

abbrev pub threads_data : Reading → Data
threads_data r =
    object (member (codes "count") (number (unsigned (length r.seen.items)))
    (member (codes "threads") (array (items_of (threads_at r.names r.details r.counts.trie.nodes.keys r.counts.table.rows.keys 0 r.seen.items))) no_members))
