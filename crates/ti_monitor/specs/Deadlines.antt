-- When something is due.
use Rattle.std.specs.Prelude.{ℕ, ◌≡◌, ◌<◌, ◌⊎◌, ◌&&◌, Bool, true, false, not, nat_lt, min, List, Some, is_some, slice_get, sum, if◌then◌else◌}
use Rattle.std.specs.List.{list_any}
use Rattle.ti_monitor.specs.declared.monitor.Monitor.{Monitor}
use Rattle.ti_monitor.specs.declared.running.Running.{Running}
use Rattle.ti_monitor.specs.Histograms.{added}
use Rattle.ti_monitor.specs.Ticking.{is_over, is_to_tick}

-- at a time nothing is due of a reading: it neither ticks nor ends
abbrev pub is_at_rest : ℕ → Running → Bool
is_at_rest now r = not (is_to_tick now r) && not (is_over now r)

-- nor at any time before this one
abbrev pub RestsBefore : ℕ → Running → Type 0
RestsBefore next r = (now : ℕ) → now < next → is_at_rest now r ≡ true

-- the next time at which something is due of a reading, or the end of all times
pub record IsNextOf (r : Running) (next : ℕ) : Type 0 where
  pub before : RestsBefore next r
  pub at : (next ≡ 18446744073709551615) ⊎ (is_at_rest next r ≡ false)

-- the same of these readings
pub record IsNextIn (rs : List Running) (next : ℕ) : Type 0 where
  pub before : (place : ℕ) (r : Running) → slice_get rs place ≡ Some r → RestsBefore next r
  pub at : (next ≡ 18446744073709551615) ⊎ ((place : ℕ) × (r : Running) × (slice_get rs place ≡ Some r) × (is_at_rest next r ≡ false))

-- a reading goes on, and stacks are owed to it
abbrev pub waits_at_all : Running → Bool
waits_at_all r = not (is_some r.ended) && nat_lt 0 (sum r.account.owed.items)

-- one of the readings does
abbrev pub wait_at_all : List Running → Bool
wait_at_all rs = list_any waits_at_all rs

-- a millisecond after the monitor's last tick, if a reading waits
abbrev pub soon_of : Monitor → ℕ
soon_of m = if wait_at_all m.readings.running.items then added m.last_tick 1000000 else 18446744073709551615

-- the first time at which threads are met, or probed, or something is due of a reading, or answers to calls may be there
pub record IsDeadline (m : Monitor) (deadline : ℕ) : Type 0 where
  pub next : ℕ
  pub readings : IsNextIn m.readings.running.items next
  pub first : deadline ≡ min (min (min m.next_meeting m.next_probe) next) (soon_of m)
