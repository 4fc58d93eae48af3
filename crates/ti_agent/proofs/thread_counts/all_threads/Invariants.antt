use Rattle.std.proofs.Common.{◌≡◌, ◌≤◌, vec_capacity}
use Rattle.ti_agent.specs.Traces.{each_thread}
use Rattle.ti_agent.proofs.thread_counts.all_threads.Given as goal

-- those so far
abbrev pub invariant-loop-i : goal.invariant-loop-i
invariant-loop-i l = record {
  room : l.fn.count ≤ vec_capacity l.threads;
  all : l.threads.items ≡ each_thread l.i;
}
