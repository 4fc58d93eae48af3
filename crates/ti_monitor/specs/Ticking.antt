-- What a tick of a reading owes, and when a reading ends.
use Rattle.std.specs.Prelude.{ℕ, ◌≡◌, ◌<◌, ◌≤◌, ◌+◌, ◌⊎◌, ◌&&◌, ◌||◌, ◌==◌, Bool, true, false, not, nat_lt, List, Option, Some, None, is_some, length, max, slice_get, sum, if◌then◌else◌}
use Rattle.ti_monitor.specs.declared.account.Account.{Account}
use Rattle.ti_monitor.specs.declared.reading.Order.{Order}
use Rattle.ti_monitor.specs.declared.running.Running.{Running}
use Rattle.ti_monitor.specs.declared.watched.Watched.{Watched}
use Rattle.ti_monitor.specs.Accounts.{IsEmpty, IsExhausted, IsUncounted, LosesUpTo, owed_at}
use Rattle.ti_monitor.specs.Counting.{frame}
use Rattle.ti_monitor.specs.Histograms.{added}
use Rattle.ti_monitor.specs.Orders.{labels_in, length_of, period_of, ticks_of}
use Rattle.ti_monitor.specs.Schedules.{closed, is_due, schedule_of, taken_at}
use Rattle.ti_monitor.specs.Watching.{is_done, label_at}

-- it is the same reading: its number, its order and its times
pub record IsReading (r s : Running) : Type 0 where
  pub no : s.no ≡ r.no
  pub order : s.order ≡ r.order
  pub began : s.began ≡ r.began
  pub unix : s.unix ≡ r.unix
  pub over : s.over ≡ r.over

-- a reading by an order that begins at a time: its ticks are to come, the first one at once
pub record IsNew (order : Order) (now unix : ℕ) (r : Running) : Type 0 where
  pub order_is : r.order ≡ order
  pub began : r.began ≡ now
  pub unix_is : r.unix ≡ unix
  pub over : r.over ≡ added now (length_of order)
  pub ended : r.ended ≡ None
  pub schedule : r.schedule ≡ schedule_of now (max (period_of order) 1) (ticks_of order)
  pub empty : IsEmpty r.account

-- how many stacks a tick owes of a thread: one, unless it has ended
abbrev pub tick_of : Option Watched → ℕ
tick_of None = 0
tick_of (Some w) = if is_done w then 0 else 1

-- a tick owes so at the first places, and nothing at others
pub record OwesBelow (reach : ℕ) (watched : List Watched) (a b : Account) : Type 0 where
  pub below : (place : ℕ) → place < reach → owed_at b place ≡ owed_at a place + tick_of (slice_get watched place)
  pub above : (place : ℕ) → reach ≤ place → owed_at b place ≡ owed_at a place

-- a tick owes one more stack of each thread that is there, unless that can't be. Nothing is counted
pub record OwesAll (watched : List Watched) (a b : Account) : Type 0 where
  pub reach : ℕ
  pub owes : OwesBelow reach watched a b
  pub all : (reach ≡ length watched) ⊎ IsExhausted reach b
  pub uncounted : IsUncounted a b

-- a reading ticks: the tick is taken, and those that were due after it are missed
pub record Ticks (now : ℕ) (watched : List Watched) (r s : Running) : Type 0 where
  pub same : IsReading r s
  pub ended : s.ended ≡ r.ended
  pub schedule : s.schedule ≡ taken_at r.schedule now
  pub owes : OwesAll watched r.account s.account

-- it goes on, and a tick is due
abbrev pub is_to_tick : ℕ → Running → Bool
is_to_tick now r = not (is_some r.ended) && is_due r.schedule now

-- it ticks then, and else stays
abbrev pub TicksIfDue : ℕ → List Watched → Running → Running → Type 0
TicksIfDue now watched r s = (is_to_tick now r ≡ true → Ticks now watched r s) × (is_to_tick now r ≡ false → s ≡ r)

-- a reading ends: no tick is to come, and all that is owed counts as not answered, each under its thread's label
pub record Ends (now : ℕ) (watched : List Watched) (r s : Running) : Type 0 where
  pub same : IsReading r s
  pub ended : s.ended ≡ Some now
  pub schedule : s.schedule ≡ closed r.schedule
  pub loses : LosesUpTo r.account s.account (length r.account.owed.items) (frame 0 0) (label_at watched (labels_in r.order))

-- one that goes on ends so, and one that has ended stays
abbrev pub EndsNow : ℕ → List Watched → Running → Running → Type 0
EndsNow now watched r s = (is_some r.ended ≡ true → s ≡ r) × (is_some r.ended ≡ false → Ends now watched r s)

-- when a reading ends though stacks are owed: 50 ms after its time
abbrev pub late_of : Running → ℕ
late_of r = added r.over 50000000

-- it goes on and its time has passed, and either no tick is to come and no stack is owed, or it is late
abbrev pub is_over : ℕ → Running → Bool
is_over now r =
    not (is_some r.ended) && (not (nat_lt now r.over) && (((r.schedule.left == 0) && (sum r.account.owed.items == 0)) || not (nat_lt now (late_of r))))

-- it ends then, and else stays
abbrev pub EndsIfOver : ℕ → List Watched → Running → Running → Type 0
EndsIfOver now watched r s = (is_over now r ≡ true → Ends now watched r s) × (is_over now r ≡ false → s ≡ r)
