-- The bytes of a profile: a Profile message of perftools' profile.proto. The fields of each message are in rising order of
-- their numbers.
use Rattle.std.specs.Prelude.{ℕ, ◌+◌, ◌*◌, ◌==◌, List, [], ◌∷◌, ◌++◌, codes, fold, length, map, min, nat_lt, slice_get, if◌then◌else◌, Option, None, Some, String}
use Rattle.std.specs.Global.{Global}
use Rattle.std.specs.String.{string_bytes}
use Rattle.std.specs.List.{flat_map, position_or_len}
use Rattle.indexmap.specs.IndexSet.{insert_key}
use Rattle.ti_pprof.specs.declared.names.About.{About}
use Rattle.ti_pprof.specs.declared.names.Function.{Function}
use Rattle.ti_pprof.specs.declared.names.Names.{Names}
use Rattle.ti_pprof.specs.declared.names.Unit.{Unit}
use Rattle.ti_pprof.specs.declared.names.Unit.TheVariants.{Threads, Wall}
use Rattle.ti_pprof.specs.declared.stacks.Frame.{Frame}
use Rattle.ti_pprof.specs.declared.stacks.Node.{Node}
use Rattle.ti_pprof.specs.Samples.{Sample}
use Rattle.ti_pprof.specs.Stacks.{is_same_frame}
use Rattle.ti_pprof.specs.Strings.{number_of, strings_of}
use Rattle.ti_pprof.specs.Units.{unit_measure, unit_name, unit_period, unit_words}
use Rattle.ti_pprof.specs.Wire.{block_field, number_field, packed_field}

-- ---- the texts, in the order of their use

-- what each profile names
abbrev pub common_words : List (List ℕ)
common_words = [] ∷ codes "samples" ∷ codes "count" ∷ codes "wall" ∷ codes "nanoseconds" ∷ codes "thread" ∷ codes "state"
    ∷ codes "(no frames)" ∷ codes "(no room)" ∷ codes "(unknown)" ∷ []

abbrev pub words : Unit → List (List ℕ)
words unit = common_words ++ unit_words unit

-- a function's name and its file
abbrev pub texts_of_function : Function → List (List ℕ)
texts_of_function f = string_bytes f.name ∷ string_bytes f.file ∷ []

abbrev pub texts_of : About → Names → List (List ℕ)
texts_of about names =
    words about.unit ++ (string_bytes about.program ∷ [] ++ (flat_map texts_of_function names.functions.items
    ++ (map string_bytes names.threads.items ++ (map string_bytes names.states.items ++ map string_bytes about.comments.items))))

-- ---- the messages; `strings` is the table of strings

-- ValueType: 1 type, 2 unit
abbrev pub value_type : List (List ℕ) → List ℕ → List ℕ → List ℕ
value_type strings kind unit = number_field 1 (number_of strings kind) ++ number_field 2 (number_of strings unit)

-- Label: 1 key, 2 str
abbrev pub label : List (List ℕ) → List ℕ → List ℕ → List ℕ
label strings key text = number_field 1 (number_of strings key) ++ number_field 2 (number_of strings text)

-- the label of a Sample, if there is a text for it
abbrev pub label_field : List (List ℕ) → List ℕ → Option (String Global) → List ℕ
label_field strings key None = []
label_field strings key (Some text) = block_field 3 (label strings key (string_bytes text))

-- how long so many samples are, in nanoseconds: at most what an int64 holds
abbrev pub wall_of : ℕ → ℕ → ℕ
wall_of period count = min (count * period) 9223372036854775807

-- the values of a Sample: 2 value
abbrev pub values : Unit → ℕ → List ℕ
values (Wall period) count = packed_field 2 (count ∷ wall_of period count ∷ [])
values Threads count = packed_field 2 (count ∷ [])

-- Location 1 is for a stack without frames, and location 2 for a stack without room. Those of the frames follow.
abbrev pub location_of : List Frame → Frame → ℕ
location_of locations frame = position_or_len (is_same_frame frame) locations + 3

-- the location of a node's frame
abbrev pub node_location : List Frame → Node → ℕ
node_location locations node = location_of locations node.frame

abbrev pub locations_of_stack : List Frame → List Frame → List ℕ
locations_of_stack locations [] = 1 ∷ []
locations_of_stack locations (frame ∷ frames) = map (location_of locations) (frame ∷ frames)

-- the labels of a Sample
abbrev pub labels : List (List ℕ) → Names → ℕ → ℕ → List ℕ
labels strings names thread state =
    label_field strings (codes "thread") (slice_get names.threads.items thread) ++ label_field strings (codes "state") (slice_get names.states.items state)

-- Sample: 1 location_id, 2 value, 3 label
abbrev pub sample_message : List (List ℕ) → Names → Unit → List Frame → Sample → List ℕ
sample_message strings names unit locations s =
    packed_field 1 (locations_of_stack locations s.frames) ++ (values unit s.count ++ labels strings names s.thread s.state)

abbrev pub sample_field : List (List ℕ) → Names → Unit → List Frame → Sample → List ℕ
sample_field strings names unit locations s = block_field 2 (sample_message strings names unit locations s)

-- the Sample of what had no room, if there was any
abbrev pub no_room_field : Unit → ℕ → List ℕ
no_room_field unit count = if count == 0 then [] else block_field 2 (packed_field 1 (2 ∷ []) ++ values unit count)

-- Mapping: 1 id, 5 filename, 7 has_functions, 8 has_filenames, 9 has_line_numbers
abbrev pub mapping : List (List ℕ) → List ℕ → List ℕ
mapping strings program = number_field 1 1 ++ (number_field 5 (number_of strings program) ++ (number_field 7 1 ++ (number_field 8 1 ++ number_field 9 1)))

-- Line: 1 function_id, 2 line
abbrev pub line : ℕ → ℕ → List ℕ
line function n = number_field 1 function ++ number_field 2 n

-- Location: 1 id, 2 mapping_id, 4 line
abbrev pub location : ℕ → ℕ → ℕ → List ℕ
location id function n = number_field 1 id ++ (number_field 2 1 ++ block_field 4 (line function n))

-- Functions 1 to 3 are for no frames, for no room, and for a frame whose function has no name. Those of the names follow.
abbrev pub function_of : ℕ → Frame → ℕ
function_of named frame = if nat_lt frame.function named then frame.function + 4 else 3

-- the locations of these frames; the first one has this id
abbrev pub locations_from : ℕ → ℕ → List Frame → List ℕ
locations_from named id [] = []
locations_from named id (frame ∷ frames) = block_field 4 (location id (function_of named frame) frame.line) ++ locations_from named (id + 1) frames

-- Function: 1 id, 2 name, 4 filename, 5 start_line
abbrev pub function : List (List ℕ) → ℕ → List ℕ → List ℕ → ℕ → List ℕ
function strings id name file start =
    number_field 1 id ++ (number_field 2 (number_of strings name) ++ (number_field 4 (number_of strings file) ++ number_field 5 start))

-- these functions; the first one has this id
abbrev pub functions_from : List (List ℕ) → ℕ → List Function → List ℕ
functions_from strings id [] = []
functions_from strings id (f ∷ functions) =
    block_field 5 (function strings id (string_bytes f.name) (string_bytes f.file) f.start_line) ++ functions_from strings (id + 1) functions

-- ---- the parts of a Profile, in their order

-- 1 sample_type
abbrev pub sample_types : List (List ℕ) → Unit → List ℕ
sample_types strings Threads = block_field 1 (value_type strings (codes "threads") (codes "count"))
sample_types strings (Wall period) = block_field 1 (value_type strings (codes "samples") (codes "count")) ++ block_field 1 (value_type strings (codes "wall") (codes "nanoseconds"))

-- 2 sample
abbrev pub sample_fields : List (List ℕ) → Names → Unit → List Frame → List Sample → List ℕ
sample_fields strings names unit locations samples = flat_map (sample_field strings names unit locations) samples

-- 4 location
abbrev pub location_fields : ℕ → List Frame → List ℕ
location_fields named locations = block_field 4 (location 1 1 0) ++ (block_field 4 (location 2 2 0) ++ locations_from named 3 locations)

-- 5 function
abbrev pub function_fields : List (List ℕ) → List Function → List ℕ
function_fields strings functions =
    block_field 5 (function strings 1 (codes "(no frames)") [] 0) ++ (block_field 5 (function strings 2 (codes "(no room)") [] 0)
    ++ (block_field 5 (function strings 3 (codes "(unknown)") [] 0) ++ functions_from strings 4 functions))

-- 6 string_table
abbrev pub string_fields : List (List ℕ) → List ℕ
string_fields strings = flat_map (block_field 6) strings

-- 9 time_nanos, 10 duration_nanos, 11 period_type, 12 period, 13 comment, 14 default_sample_type
abbrev pub about_fields : List (List ℕ) → About → List ℕ
about_fields strings about =
    number_field 9 about.time ++ (number_field 10 about.duration ++ (block_field 11 (value_type strings (unit_name about.unit) (unit_measure about.unit))
    ++ (number_field 12 (unit_period about.unit) ++ (packed_field 13 (map (number_of strings) (map string_bytes about.comments.items))
    ++ number_field 14 (number_of strings (unit_name about.unit))))))

-- ---- the whole

-- the frames of a trie's nodes, each once, in the order of the nodes
abbrev pub frames_of : List Node → List Frame
frames_of nodes = fold (insert_key is_same_frame) [] (map (λ (n : Node). n.frame) nodes)

-- what was counted: a Sample for each sample, and one for what had no room
abbrev pub counted_fields : List (List ℕ) → Names → Unit → List Frame → List Sample → ℕ → List ℕ
counted_fields strings names unit locations samples no_room = sample_fields strings names unit locations samples ++ no_room_field unit no_room

-- what the samples refer to
abbrev pub table_fields : List (List ℕ) → List Frame → About → Names → List ℕ
table_fields strings locations about names =
    block_field 3 (mapping strings (string_bytes about.program)) ++ (location_fields (length names.functions.items) locations
    ++ (function_fields strings names.functions.items ++ string_fields strings))

-- the profile over a table of strings and a list of frames
abbrev pub profile_over : List (List ℕ) → List Frame → About → Names → List Sample → ℕ → List ℕ
profile_over strings locations about names samples no_room =
    sample_types strings about.unit ++ (counted_fields strings names about.unit locations samples no_room
    ++ (table_fields strings locations about names ++ about_fields strings about))

-- the profile of these samples, and of so many stacks without room
abbrev pub profile : About → Names → List Node → List Sample → ℕ → List ℕ
profile about names nodes samples no_room = profile_over (strings_of (texts_of about names)) (frames_of nodes) about names samples no_room
