-- What a door answers, and with what.
use Rattle.std.specs.Prelude.{ℕ, ◌+◌, ◌*◌, ◌-◌, ◌^◌, ◌==◌, List, [], ◌∷◌, length, min, nat_lt, slice_index, if◌then◌else◌}
use Rattle.serde_json.specs.Written.{compact_text}
use Rattle.ti_http.specs.declared.answers.ContentType.{ContentType}
use Rattle.ti_http.specs.declared.answers.ContentType.TheVariants as content
use Rattle.ti_http.specs.declared.target.Debug.{Debug}
use Rattle.ti_http.specs.declared.target.Debug.TheVariants as debug
use Rattle.ti_http.specs.declared.target.Target.{Target}
use Rattle.ti_http.specs.declared.target.Target.TheVariants as target
use Rattle.ti_pprof.specs.Profile.{profile}
use Rattle.ti_pprof.specs.Samples.{samples_of}
use Rattle.ti_monitor.specs.declared.door_error.DoorError.{DoorError}
use Rattle.ti_monitor.specs.declared.door_error.DoorError.TheVariants as error
use Rattle.ti_monitor.specs.declared.reading.Order.{Order}
use Rattle.ti_monitor.specs.declared.reading.Order.TheVariants as order
use Rattle.ti_monitor.specs.declared.reading.Reading.{Reading}
use Rattle.ti_monitor.specs.Json.{threads_data}
use Rattle.ti_monitor.specs.Texts.{plain_json, text_of}
use Rattle.ti_monitor.specs.Threads.{groups_lines, threads_lines}

-- JVM TI's numbers, and one of this service
abbrev pub number_of : DoorError → ℕ
number_of error.NoConnection = 103
number_of error.OutOfMemory = 110
number_of error.Full = 216

-- ---- answers

abbrev pub content_of_threads : Debug → ContentType
content_of_threads debug.Profile = content.Octets
content_of_threads debug.Groups = content.Text
content_of_threads debug.Threads = content.Text

abbrev pub content_of : Target → ContentType
content_of target.Index = content.Text
content_of target.Metrics = content.Metrics
content_of target.Threads = content.Text
content_of target.ThreadsJson = content.Json
content_of (target.ThreadsProfile d) = content_of_threads d
content_of (target.Profile seconds rate labels) = content.Octets

-- what is read for a target
abbrev pub order_of : Target → Order
order_of target.Index = order.Once
order_of target.Metrics = order.Once
order_of target.Threads = order.Once
order_of target.ThreadsJson = order.Once
order_of (target.ThreadsProfile d) = order.Once
order_of (target.Profile seconds rate labels) = order.Over seconds rate labels

-- seconds after which there is room for one more reading
abbrev pub retry_after : Target → ℕ
retry_after target.Index = 1
retry_after target.Metrics = 1
retry_after target.Threads = 1
retry_after target.ThreadsJson = 1
retry_after (target.ThreadsProfile d) = 1
retry_after (target.Profile seconds rate labels) = seconds

abbrev pub profile_of : Reading → List ℕ
profile_of r = profile r.about r.names r.counts.trie.nodes.keys (samples_of r.counts.trie r.counts.table) r.counts.no_room

abbrev pub body_in : Debug → Reading → List ℕ
body_in debug.Profile r = profile_of r
body_in debug.Groups r = text_of (groups_lines r)
body_in debug.Threads r = text_of (threads_lines r)

-- the body of the answer to a target that a reading was made for
abbrev pub body_of : Target → Reading → List ℕ
body_of target.Index r = text_of (threads_lines r)
body_of target.Metrics r = text_of (threads_lines r)
body_of target.Threads r = text_of (threads_lines r)
body_of target.ThreadsJson r = plain_json (compact_text (threads_data r))
body_of (target.ThreadsProfile d) r = body_in d r
body_of (target.Profile seconds rate labels) r = profile_of r

-- ---- counts by status

-- a row of a code, with one more if it is this one
abbrev pub counted : ℕ → ℕ × ℕ → ℕ × ℕ
counted code row = if row.0 == code then (row.0, min (row.1 + 1) (2 ^ 64 - 1)) else row

-- what a digit stands for
abbrev pub digit : ℕ → ℕ
digit b = b - 48

-- the three digits of the code behind `HTTP/1.1 `
abbrev pub code_in : List ℕ → ℕ
code_in answer =
    if nat_lt (length answer) 12 then 0
    else digit (slice_index answer 9) * 100 + digit (slice_index answer 10) * 10 + digit (slice_index answer 11)

-- each code, of which no answer was given
abbrev pub no_answers : List (ℕ × ℕ)
no_answers =
    (200, 0) ∷ (400, 0) ∷ (403, 0) ∷ (404, 0) ∷ (405, 0) ∷ (408, 0) ∷ (413, 0) ∷ (414, 0) ∷ (421, 0) ∷ (431, 0) ∷ (500, 0) ∷ (501, 0)
    ∷ (503, 0) ∷ (505, 0) ∷ []
