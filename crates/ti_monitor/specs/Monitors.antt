-- The readings of a monitor.
use Rattle.std.specs.Prelude.{ℕ, ◌≡◌, ◌≤◌, ◌⊎◌, ◌==◌, Bool, true, false, List, [], ◌∷◌, ◌++◌, Option, Some, None, is_some, length, map, slice_get, if◌then◌else◌}
use Rattle.std.specs.List.{remove, sum_by}
use Rattle.ti_service.specs.declared.event.EventKind.{EventKind}
use Rattle.ti_service.specs.declared.event.EventKind.TheVariants.{ThreadAttached, ThreadDetached}
use Rattle.ti_service.specs.Agent.{AgentState}
use Rattle.ti_service.specs.Telling.{Enables}
use Rattle.ti_pprof.specs.declared.counting.Counts.{Counts}
use Rattle.ti_monitor.specs.declared.metrics.Metrics.{Metrics}
use Rattle.ti_monitor.specs.declared.monitor.ReadingNo.{ReadingNo}
use Rattle.ti_monitor.specs.declared.reading.Order.{Order}
use Rattle.ti_monitor.specs.declared.running.Running.{Running}
use Rattle.ti_monitor.specs.Histograms.{added}
use Rattle.ti_monitor.specs.Orders.{profile_count}
use Rattle.ti_monitor.specs.Ticking.{IsNew}

-- the environment is as it was, or was enabled to be told of events of a kind
abbrev pub MayEnableOne : EventKind → AgentState → AgentState → Type 0
MayEnableOne k old new = (new ≡ old) ⊎ Enables k old new

-- so for threads that are attached, and then for threads that are given back
abbrev pub MayEnable : AgentState → AgentState → Type 0
MayEnable old new = (mid : AgentState) × MayEnableOne ThreadAttached old mid × MayEnableOne ThreadDetached mid new

-- the number and the order of a reading, and of each
abbrev pub order_of : Running → ReadingNo × Order
order_of r = (r.no, r.order)

abbrev pub orders_of : List Running → List (ReadingNo × Order)
orders_of readings = map order_of readings

-- the reading of a number, if there is one
abbrev pub reading_in : List Running → ReadingNo → Option Running
reading_in [] number = None
reading_in (r ∷ readings) number = if r.no.0 == number.0 then Some r else reading_in readings number

-- whether a reading is there and has ended
abbrev pub has_ended : Option Running → Bool
has_ended None = false
has_ended (Some r) = is_some r.ended

-- these are the counts of a reading that has ended: all that was owed is counted
abbrev pub AreCountsOf : Option Running → Counts → Type 0
AreCountsOf None counts = has_ended None ≡ true
AreCountsOf (Some r) counts = (is_some r.ended ≡ true) × (counts ≡ r.account.counts) × (counts.total ≡ r.account.thread_ticks)

-- how many of the readings are profiles
abbrev pub profiles_in : List Running → ℕ
profiles_in readings = sum_by (λ (r : Running). profile_count r.order) readings

-- there is no room for one more reading: sixteen are there, or it is a profile and two of them are there
abbrev pub IsFull : List Running → Order → Type 0
IsFull readings order = (16 ≤ length readings) ⊎ ((profile_count order ≡ 1) × (2 ≤ profiles_in readings))

-- there is no room, or no number is left
abbrev pub HasNoRoom : List Running → ℕ → Order → Type 0
HasNoRoom readings begun order = IsFull readings order ⊎ (begun ≡ 18446744073709551615)

-- one more reading was begun, behind the others
abbrev pub Begins : List Running → List Running → ReadingNo → Order → ℕ → ℕ → Type 0
Begins old new number order now unix = (r : Running) × (new ≡ old ++ r ∷ []) × (r.no ≡ number) × IsNew order now unix r

-- the readings without the first one of a number
abbrev pub IsWithout : ReadingNo → List Running → List Running → Type 0
IsWithout number old new = (place : ℕ) × (slice_get old place ≡ reading_in old number) × (new ≡ remove old place)

-- the same, or there was none
abbrev pub MayBeWithout : ReadingNo → List Running → List Running → Type 0
MayBeWithout number old new = (new ≡ old) ⊎ IsWithout number old new

-- one more profile was begun, if it is one
abbrev pub begun_in : Order → Metrics → Metrics
begun_in order m = if profile_count order == 1 then record m { profiles = added m.profiles 1 } else m
