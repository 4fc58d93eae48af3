use Rattle.std.proofs.Common.{◌≡◌, ◌≤◌, length, vec_capacity}
use Rattle.ti_types.specs.declared.limits.Limits.{Limits}
use Rattle.ti_agent.specs.Buffers.{AreRoomy}
use Rattle.ti_agent.proofs.traces.buffers.Given as goal

-- those so far
abbrev pub invariant-loop : goal.invariant-loop
invariant-loop l = record {
  room : l.fn.count ≤ vec_capacity l.bufs;
  count : length l.bufs.items ≡ l.counter;
  roomy : (limits : Limits) → limits.depth ≡ l.fn.depth → AreRoomy limits l.fn.max_count l.bufs.items;
}
