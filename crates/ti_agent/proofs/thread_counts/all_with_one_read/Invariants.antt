use Rattle.std.proofs.Common.{◌≡◌, ◌≤◌, vec_capacity}
use Rattle.ti_agent.specs.Traces.{all_once}
use Rattle.ti_agent.proofs.thread_counts.all_with_one_read.Given as goal

-- those so far
abbrev pub invariant-loop-i : goal.invariant-loop-i
invariant-loop-i l = record {
  room : l.fn.count ≤ vec_capacity l.list;
  all : l.list.items ≡ all_once l.i;
}
