-- What was read of the threads, as lines of text.
use Rattle.std.specs.Prelude.{ℕ, ◌+◌, ◌==◌, ◌&&◌, Bool, false, List, [], ◌∷◌, ◌++◌, Option, Some, None, codes, decimal, fold, get_or, length, map, slice_get, unwrap_or, if◌then◌else◌}
use Rattle.std.specs.Fmt.{signed_decimal}
use Rattle.std.specs.List.{flat_map}
use Rattle.std.specs.Global.{Global}
use Rattle.std.specs.Prelude.{String}
use Rattle.std.specs.String.{string_bytes}
use Rattle.indexmap.specs.IndexSet.{insert_key}
use Rattle.ti_pprof.specs.declared.names.Function.{Function}
use Rattle.ti_pprof.specs.declared.names.Names.{Names}
use Rattle.ti_pprof.specs.declared.stacks.Frame.{Frame}
use Rattle.ti_pprof.specs.declared.stacks.Node.{Node}
use Rattle.ti_pprof.specs.declared.table.Row.{Row}
use Rattle.ti_pprof.specs.Stacks.{stack_at, stacks_of}
use Rattle.ti_monitor.specs.declared.groups_text.Group.{Group}
use Rattle.ti_monitor.specs.declared.reading.Details.{Details}
use Rattle.ti_monitor.specs.declared.reading.Reading.{Reading}
use Rattle.ti_monitor.specs.declared.reading.Seen.{Seen}
use Rattle.ti_monitor.specs.Stacks.{frames_in, row_of, state_of, text_at}
use Rattle.ti_monitor.specs.Texts.{escaped}

-- what stands where nothing is known
abbrev pub unknown : List ℕ
unknown = codes "(unknown)"

-- ---- frames

abbrev pub line_number : ℕ → List ℕ
line_number n = if n == 0 then [] else codes ":" ++ decimal n

-- a file and a line, as far as they are known
abbrev pub source_text : List ℕ → ℕ → List ℕ
source_text file n = if length file == 0 then codes "Unknown Source" else escaped file ++ line_number n

-- a function: its name, and that it is a native method, or its file and line
abbrev pub function_text : Function → Bool → ℕ → List ℕ
function_text f native n =
    escaped (string_bytes f.name)
    ++ (if native then codes " (Native Method)" else codes " (" ++ (source_text (string_bytes f.file) n ++ codes ")"))

abbrev pub place_text : Option Function → Bool → ℕ → List ℕ
place_text None native n = codes "(unknown) (Unknown Source)"
place_text (Some f) native n = function_text f native n

-- the function at a place is a native method
abbrev pub is_native : List Bool → ℕ → Bool
is_native natives place = get_or natives place false

abbrev pub frame_line : List Function → List Bool → Frame → List ℕ
frame_line functions natives frame =
    codes "    at " ++ place_text (slice_get functions frame.function) (is_native natives frame.function) frame.line

-- ---- thread by thread

abbrev pub title : List ℕ → ℕ → List ℕ
title name number = codes "\"" ++ (escaped name ++ (codes "\" #" ++ decimal number))

abbrev pub head_line : List ℕ → Seen → List ℕ → List ℕ
head_line name seen state =
    title name seen.thread.0 ++ (codes " prio=" ++ (signed_decimal seen.priority ++ (codes " " ++ escaped state)))

-- a thread: its name, number, priority and state, a line for each frame, and an empty line
abbrev pub thread_text : Names → Details → List Node → Option Row → Seen → ℕ → List (List ℕ)
thread_text names details nodes row seen place =
    head_line (unwrap_or (text_at details.threads.items place) unknown) seen (unwrap_or (state_of names.states.items row seen) unknown)
    ∷ (map (frame_line names.functions.items details.natives.items) (frames_in nodes row) ++ [] ∷ [])

-- these threads; the first one has this place
abbrev pub threads_from : Names → Details → List Node → List Row → ℕ → List Seen → List (List ℕ)
threads_from names details nodes rows place [] = []
threads_from names details nodes rows place (seen ∷ more) =
    thread_text names details nodes (row_of rows place) seen place ++ threads_from names details nodes rows (place + 1) more

-- how many there are, and each of them
abbrev pub threads_lines : Reading → List (List ℕ)
threads_lines r =
    (decimal (length r.seen.items) ++ codes " threads") ∷ []
    ∷ threads_from r.names r.details r.counts.trie.nodes.keys r.counts.table.rows.keys 0 r.seen.items

-- ---- threads of one stack and one state together

abbrev pub group_of : Row → Group
group_of row = record { stack = row.stack; state = row.state }

abbrev pub is_same_group : Group → Group → Bool
is_same_group a b = (a.stack == b.stack) && (a.state == b.state)

-- each group once, in the order of the first samples
abbrev pub groups_of : List Row → List Group
groups_of rows = fold (insert_key is_same_group) [] (map group_of rows)

abbrev pub is_in : Group → Row → Bool
is_in group row = (row.stack == group.stack) && (row.state == group.state)

-- the threads of a group
abbrev pub members_of : Group → List Row → List ℕ
members_of group [] = []
members_of group (row ∷ rows) = if is_in group row then row.thread ∷ members_of group rows else members_of group rows

abbrev pub name_of : List (String Global) → ℕ → List ℕ
name_of names thread = escaped (unwrap_or (text_at names thread) unknown)

-- names with commas between them
abbrev pub more_names : List (String Global) → List ℕ → List ℕ
more_names names [] = []
more_names names (thread ∷ threads) = codes ", " ++ (name_of names thread ++ more_names names threads)

abbrev pub names_text : List (String Global) → List ℕ → List ℕ
names_text names [] = []
names_text names (thread ∷ threads) = name_of names thread ++ more_names names threads

-- a group: how many threads, their state and names, a line for each frame, and an empty line
abbrev pub group_lines : Names → Details → List Node → List Row → Group → List (List ℕ)
group_lines names details nodes rows group =
    (decimal (length (members_of group rows)) ++ (codes " " ++ (escaped (unwrap_or (text_at names.states.items group.state) unknown)
    ++ (codes ": " ++ names_text details.threads.items (members_of group rows)))))
    ∷ (map (frame_line names.functions.items details.natives.items) (stack_at (stacks_of nodes) group.stack) ++ [] ∷ [])

-- how many samples there are
unfoldable pub total_line : ℕ → List ℕ
total_line count = codes "threads profile: total " ++ decimal count

-- how many samples there are, and each group
abbrev pub groups_lines : Reading → List (List ℕ)
groups_lines r =
    total_line (length r.counts.table.rows.keys)
    ∷ flat_map (group_lines r.names r.details r.counts.trie.nodes.keys r.counts.table.rows.keys) (groups_of r.counts.table.rows.keys)
