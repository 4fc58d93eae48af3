-- What is said as JSON has no float.
use Rattle.std.proofs.Common.{◌≡◌, ℕ, ◌+◌, ◌||◌, Bool, true, false, List, [], ◌∷◌, map, Option, Some, None, refl, ap, ◌∙◌, cond, eqb}
use Rattle.std.specs.Prelude.{ℤ, pos, negsuc, length, slice_get, unwrap_or}
use Rattle.serde_json.specs.Data.{Data, null, number, string, unsigned}
use Rattle.serde_json.specs.Find.{is_float, of_integer}
use Rattle.serde_json.specs.View.{items_of}
use Rattle.serde_json.specs.Written.{has_float, items_have_float}
use Rattle.ti_pprof.specs.declared.names.Function.{Function}
use Rattle.ti_pprof.specs.declared.names.Names.{Names}
use Rattle.ti_pprof.specs.declared.stacks.Frame.{Frame}
use Rattle.ti_pprof.specs.declared.stacks.Node.{Node}
use Rattle.ti_pprof.specs.declared.table.Row.{Row}
use Rattle.ti_monitor.specs.declared.reading.Details.{Details}
use Rattle.ti_monitor.specs.declared.reading.Reading.{Reading}
use Rattle.ti_monitor.specs.declared.reading.Seen.{Seen}
use Rattle.ti_monitor.specs.Json.{frame_data, frames_data, function_data, line_data, named_data, state_data, suspended_data, thread_data, threads_at, threads_data}
use Rattle.ti_monitor.specs.Stacks.{frames_in, row_of, state_of, text_at}
use Rattle.ti_monitor.specs.Threads.{unknown}
use Rattle.std.specs.String.{string_bytes}

text_plain : (b : Bool) (text : List ℕ) → has_float (cond b null (string text)) ≡ false
text_plain true text = refl
text_plain false text = refl

line_plain : (b : Bool) (n : ℕ) → has_float (cond b null (number (unsigned n))) ≡ false
line_plain true n = refl
line_plain false n = refl

named_plain : (name file : List ℕ) (n : ℕ) → has_float (named_data name file n) ≡ false
named_plain name file n =
    ap (λ b. b || (has_float (line_data n) || false)) (text_plain (eqb (length file) 0) file) ∙ ap (λ b. b || false) (line_plain (eqb n 0) n)

function_plain : (f : Option Function) (n : ℕ) → has_float (function_data f n) ≡ false
function_plain None n = named_plain unknown [] n
function_plain (Some f) n = named_plain (string_bytes f.name) (string_bytes f.file) n

items_plain : (functions : List Function) (frames : List Frame) → items_have_float (items_of (map (frame_data functions) frames)) ≡ false
items_plain functions [] = refl
items_plain functions (frame ∷ frames) =
    ap (λ b. b || items_have_float (items_of (map (frame_data functions) frames))) (function_plain (slice_get functions frame.function) frame.line) ∙ items_plain functions frames

integer_plain : (z : ℤ) → is_float (of_integer z) ≡ false
integer_plain (pos n) = refl
integer_plain (negsuc n) = refl

states_plain : (s : Option (List ℕ)) → (has_float (state_data s) || (has_float (suspended_data s) || false)) ≡ false
states_plain None = refl
states_plain (Some s) = refl

thread_plain : (name : List ℕ) (seen : Seen) (s : Option (List ℕ)) (frames : Data) → has_float frames ≡ false → has_float (thread_data name seen s frames) ≡ false
thread_plain name seen s frames h =
    ap (λ b. b || (is_float (of_integer seen.priority) || (has_float (state_data s) || (has_float (suspended_data s) || false)))) h
    ∙ ap (λ b. b || (has_float (state_data s) || (has_float (suspended_data s) || false))) (integer_plain seen.priority)
    ∙ states_plain s

threads_plain : (names : Names) (details : Details) (nodes : List Node) (rows : List Row) (place : ℕ) (seen : List Seen) → items_have_float (items_of (threads_at names details nodes rows place seen)) ≡ false
threads_plain names details nodes rows place [] = refl
threads_plain names details nodes rows place (one ∷ seen) =
    ap (λ b. b || items_have_float (items_of (threads_at names details nodes rows (place + 1) seen)))
    (thread_plain (unwrap_or (text_at details.threads.items place) unknown) one (state_of names.states.items (row_of rows place) one) (frames_data names.functions.items (frames_in nodes (row_of rows place))) (items_plain names.functions.items (frames_in nodes (row_of rows place))))
    ∙ threads_plain names details nodes rows (place + 1) seen

pub all_plain : (r : Reading) → has_float (threads_data r) ≡ false
all_plain r = ap (λ b. b || false) (threads_plain r.names r.details r.counts.trie.nodes.keys r.counts.table.rows.keys 0 r.seen.items)
