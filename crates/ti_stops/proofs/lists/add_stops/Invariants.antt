use Rattle.std.proofs.Common.{◌≡◌, ◌+◌, ◌-◌, ◌≤◌, ◌++◌, length, drop, vec_len, vec_capacity}
use Rattle.ti_stops.specs.Arrivals.{asked, stop_by}
use Rattle.ti_stops.specs.Stops.{waits_by}
use Rattle.ti_stops.proofs.lists.add_stops.Given as goal

-- what is added and what the rest adds is what all add
abbrev pub invariant-loop-i : goal.invariant-loop-i
invariant-loop-i l = record {
  items : l.waiting.items ++ waits_by (stop_by (asked l.modes l.breakpoints l.pops) l.arrival) (drop l.i l.envs) ≡ l.fn.waiting.items ++ waits_by (stop_by (asked l.modes l.breakpoints l.pops) l.arrival) l.envs;
  room : vec_len l.waiting + (length l.envs - l.i) ≤ vec_capacity l.waiting;
}
