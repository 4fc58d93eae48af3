-- The ticks of a reading.
use Rattle.std.specs.Prelude.{ℕ, ◌+◌, ◌-◌, ◌*◌, ◌/◌, ◌==◌, ◌&&◌, Bool, not, min, nat_lt}
use Rattle.ti_monitor.specs.Histograms.{added}
use Rattle.ti_monitor.specs.declared.schedule.Schedule.{Schedule}

abbrev pub schedule_of : ℕ → ℕ → ℕ → Schedule
schedule_of now period count = record { next = now; period = period; left = count; ticks = 0; missed = 0 }

-- a tick is left, and its time has come
abbrev pub is_due : Schedule → ℕ → Bool
is_due s now = not (s.left == 0) && not (nat_lt now s.next)

-- how many ticks after the next one were due, too
abbrev pub behind : Schedule → ℕ → ℕ
behind s now = min ((now - s.next) / s.period) (s.left - 1)

abbrev pub min_product : ℕ → ℕ → ℕ
min_product a b = min (a * b) 18446744073709551615

-- the next tick is taken, and those that were due after it are missed
abbrev pub taken_at : Schedule → ℕ → Schedule
taken_at s now = record {
  next = added s.next (min_product (behind s now + 1) s.period);
  period = s.period;
  left = s.left - (behind s now + 1);
  ticks = s.ticks + 1;
  missed = s.missed + behind s now;
}

-- the ticks that are left are missed
abbrev pub closed : Schedule → Schedule
closed s = record { next = s.next; period = s.period; left = 0; ticks = s.ticks; missed = s.missed + s.left }
