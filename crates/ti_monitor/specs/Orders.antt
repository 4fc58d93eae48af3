-- What is to be read.
use Rattle.std.specs.Prelude.{ℕ, ◌*◌, ◌/◌, max, min}
use Rattle.ti_http.specs.declared.target.Labels.{Labels}
use Rattle.ti_http.specs.declared.target.Labels.TheVariants.{ThreadAndState}
use Rattle.ti_monitor.specs.declared.reading.Order.{Order}
use Rattle.ti_monitor.specs.declared.reading.Order.TheVariants.{Once, Over}

-- 1 for a profile
abbrev pub profile_count : Order → ℕ
profile_count Once = 0
profile_count (Over seconds rate labels) = 1

-- the labels that the samples of a reading have
abbrev pub labels_in : Order → Labels
labels_in Once = ThreadAndState
labels_in (Over seconds rate labels) = labels

-- a number outside its range counts as the nearest one within it
abbrev pub clamped_seconds : ℕ → ℕ
clamped_seconds seconds = min (max seconds 1) 300

abbrev pub clamped_rate : ℕ → ℕ
clamped_rate rate = min (max rate 1) 1000

-- for how many frames and samples a reading has room
abbrev pub room_of : Order → ℕ
room_of Once = 65536
room_of (Over seconds rate labels) = 262144

-- the nanoseconds from one tick to the next
abbrev pub period_of : Order → ℕ
period_of Once = 1
period_of (Over seconds rate labels) = 1000000000 / clamped_rate rate

-- how many ticks there are
abbrev pub ticks_of : Order → ℕ
ticks_of Once = 1
ticks_of (Over seconds rate labels) = clamped_seconds seconds * clamped_rate rate

-- how many nanoseconds it takes
abbrev pub length_of : Order → ℕ
length_of Once = 0
length_of (Over seconds rate labels) = clamped_seconds seconds * 1000000000
