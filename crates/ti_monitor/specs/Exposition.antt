-- What a monitor has counted, as lines of Prometheus' text format, version 0.0.4.
use Rattle.std.specs.Prelude.{ℕ, List, [], ◌∷◌, ◌++◌, codes, decimal, map}
use Rattle.ti_monitor.specs.declared.metrics.Histogram.{Histogram}
use Rattle.ti_monitor.specs.declared.metrics.Metrics.{Metrics}
use Rattle.ti_monitor.specs.declared.prometheus_lines.Series.{Series}
use Rattle.ti_monitor.specs.declared.prometheus_lines.Unit.{Unit}
use Rattle.ti_monitor.specs.declared.prometheus_lines.Unit.TheVariants as unit
use Rattle.ti_monitor.specs.Texts.{escaped, seconds}

-- ---- lines

abbrev pub shown : Unit → ℕ → List ℕ
shown unit.Count n = decimal n
shown unit.Nanos n = seconds n

-- a comment on a metric
abbrev pub about_line : List ℕ → List ℕ → List ℕ → List ℕ
about_line begin name text = begin ++ (name ++ (codes " " ++ text))

-- what a metric means, and its type
abbrev pub head_lines : List ℕ → List ℕ → List ℕ → List (List ℕ)
head_lines name kind help = about_line (codes "# HELP cebdyraq_") name help ∷ about_line (codes "# TYPE cebdyraq_") name kind ∷ []

-- the name of a sample: that of its metric, and what follows it
abbrev pub full_name : List ℕ → List ℕ → List ℕ
full_name name suffix = codes "cebdyraq_" ++ (name ++ suffix)

-- a sample without a label
abbrev pub plain_line : List ℕ → List ℕ → List ℕ → List ℕ
plain_line name suffix value = full_name name suffix ++ (codes " " ++ value)

abbrev pub label_text : List ℕ → List ℕ → List ℕ
label_text key label = codes "{" ++ (key ++ (codes "=\"" ++ (escaped label ++ codes "\"}")))

-- samples that a label tells apart: the metric's name and what follows it, the label's name, and what their values are
pub record Labelled : Type 0 where
  pub name : List ℕ
  pub suffix : List ℕ
  pub key : List ℕ
  pub unit : Unit

abbrev pub labelled : List ℕ → List ℕ → List ℕ → Unit → Labelled
labelled name suffix key unit = record { name = name; suffix = suffix; key = key; unit = unit }

abbrev pub series_of : Series → Labelled
series_of s = labelled s.name.now s.suffix.now s.key.now s.unit

-- a sample with its label
abbrev pub labelled_line : Labelled → List ℕ → ℕ → List ℕ
labelled_line s label value = full_name s.name s.suffix ++ (label_text s.key label ++ (codes " " ++ shown s.unit value))

-- a sample for each label
abbrev pub labelled_lines : Labelled → List (List ℕ) → List ℕ → List (List ℕ)
labelled_lines s [] values = []
labelled_lines s (label ∷ labels) [] = []
labelled_lines s (label ∷ labels) (value ∷ values) = labelled_line s label value ∷ labelled_lines s labels values

-- a sample of a code
abbrev pub code_line : Labelled → ℕ × ℕ → List ℕ
code_line s row = labelled_line s (decimal row.0) row.1

-- a metric of one sample
abbrev pub single : List ℕ → List ℕ → List ℕ → List ℕ → List (List ℕ)
single name kind help value = head_lines name kind help ++ plain_line name [] value ∷ []

-- ---- words

abbrev pub gauge : List ℕ
gauge = codes "gauge"

abbrev pub counter : List ℕ
counter = codes "counter"

abbrev pub state_names : List (List ℕ)
state_names =
    codes "new" ∷ codes "runnable" ∷ codes "native" ∷ codes "blocked" ∷ codes "waiting" ∷ codes "timed_waiting" ∷ codes "sleeping"
    ∷ codes "parked" ∷ codes "terminated" ∷ []

-- the bounds of the buckets in seconds
abbrev pub bound_texts : List (List ℕ)
bound_texts =
    codes "1e-05" ∷ codes "3e-05" ∷ codes "0.0001" ∷ codes "0.0003" ∷ codes "0.001" ∷ codes "0.003" ∷ codes "0.01" ∷ codes "0.03"
    ∷ codes "0.1" ∷ codes "0.3" ∷ codes "1" ∷ codes "3" ∷ codes "10" ∷ []

-- ---- the metrics

abbrev pub build_lines : List ℕ → List (List ℕ)
build_lines version =
    head_lines (codes "build_info") gauge (codes "What serves this.")
    ++ labelled_line (labelled (codes "build_info") [] (codes "version") unit.Count) version 1 ∷ []

-- a sample for each state
abbrev pub state_lines : List ℕ → Unit → List ℕ → List (List ℕ)
state_lines name unit values = labelled_lines (labelled name [] (codes "state") unit) state_names values

abbrev pub thread_lines : Metrics → List (List ℕ)
thread_lines m =
    head_lines (codes "threads") gauge (codes "Threads that are there, by state.")
    ++ (state_lines (codes "threads") unit.Count m.threads
    ++ single (codes "threads_suspended") gauge (codes "Threads that are suspended.") (decimal m.suspended))

abbrev pub life_lines : Metrics → List (List ℕ)
life_lines m =
    single (codes "threads_attached_total") counter (codes "Threads that were attached.") (decimal m.attached)
    ++ (single (codes "threads_detached_total") counter (codes "Threads that were given back.") (decimal m.detached)
    ++ (single (codes "thread_events_lost_total") counter (codes "Thread events that were overwritten before they were read.") (decimal m.events_lost)
    ++ single (codes "handovers_total") counter (codes "Times that threads handed over, in native code, blocked or at a poll.") (decimal m.hand_overs)))

abbrev pub time_lines : Metrics → List (List ℕ)
time_lines m =
    head_lines (codes "thread_seconds_total") counter (codes "Time of threads in each state, by probes.")
    ++ (state_lines (codes "thread_seconds_total") unit.Nanos m.state_time
    ++ single (codes "suspended_seconds_total") counter (codes "Time that threads were suspended, by probes.") (seconds m.suspended_time))

-- each bucket has the times up to its bound, and the last one all
abbrev pub bucket_of : Labelled
bucket_of = labelled (codes "answer_seconds") (codes "_bucket") (codes "le") unit.Count

abbrev pub answer_lines : Histogram → List (List ℕ)
answer_lines h =
    head_lines (codes "answer_seconds") (codes "histogram") (codes "Time from a call at a running thread to its answer.")
    ++ (labelled_lines bucket_of bound_texts h.within
    ++ (labelled_line bucket_of (codes "+Inf") h.count
    ∷ plain_line (codes "answer_seconds") (codes "_sum") (seconds h.sum)
    ∷ plain_line (codes "answer_seconds") (codes "_count") (decimal h.count) ∷ []))

abbrev pub call_lines : Metrics → List (List ℕ)
call_lines m =
    single (codes "calls_out") gauge (codes "Calls that were posted and not collected.") (decimal m.calls_out)
    ++ single (codes "oldest_call_seconds") gauge (codes "Age of the oldest call that has no answer, 0 if there is none.") (seconds m.oldest_call)

abbrev pub profile_lines : Metrics → List (List ℕ)
profile_lines m =
    single (codes "profiles_total") counter (codes "Profiles that were begun.") (decimal m.profiles)
    ++ (single (codes "profile_ticks_total") counter (codes "Ticks of all profiles.") (decimal m.ticks)
    ++ (single (codes "profile_ticks_missed_total") counter (codes "Ticks that came too late to be taken.") (decimal m.missed)
    ++ single (codes "profile_samples_no_room_total") counter (codes "Samples for which a profile had no room.") (decimal m.no_room)))

abbrev pub outcomes : Labelled
outcomes = labelled (codes "profile_samples_total") [] (codes "outcome") unit.Count

abbrev pub sample_lines : Metrics → List (List ℕ)
sample_lines m =
    head_lines (codes "profile_samples_total") counter (codes "Samples of all profiles.")
    ++ (labelled_line outcomes (codes "at_once") m.at_once
    ∷ labelled_line outcomes (codes "late") m.late
    ∷ labelled_line outcomes (codes "unanswered") m.unanswered ∷ [])

abbrev pub door_lines : List (ℕ × ℕ) → ℕ → List (List ℕ)
door_lines requests connections =
    head_lines (codes "http_requests_total") counter (codes "Requests that were answered, by status.")
    ++ (map (code_line (labelled (codes "http_requests_total") [] (codes "code") unit.Count)) requests
    ++ single (codes "http_connections") gauge (codes "Connections that are open.") (decimal connections))

abbrev pub metrics_lines : List ℕ → Metrics → List (ℕ × ℕ) → ℕ → List (List ℕ)
metrics_lines version m requests connections =
    build_lines version
    ++ (thread_lines m
    ++ (life_lines m
    ++ (time_lines m
    ++ (answer_lines m.answers
    ++ (call_lines m
    ++ (profile_lines m
    ++ (sample_lines m
    ++ door_lines requests connections)))))))
