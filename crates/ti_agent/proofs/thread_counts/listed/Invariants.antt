use Rattle.std.proofs.Common.{◌≡◌, ◌≤◌, length, take, vec_capacity}
use Rattle.ti_agent.specs.Traces.{listed_of}
use Rattle.ti_agent.proofs.thread_counts.listed.Given as goal

-- those so far
abbrev pub invariant-loop-i : goal.invariant-loop-i
invariant-loop-i l = record {
  room : length l.counts.entries ≤ vec_capacity l.list;
  few : length l.list.items ≡ l.i;
  listed : l.list.items ≡ listed_of (take l.i l.counts.entries);
}
