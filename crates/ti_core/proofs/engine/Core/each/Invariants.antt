use Rattle.std.proofs.Common.{◌≡◌, ◌≤◌, length, take, vec_capacity}
use Rattle.ti_core.specs.Lists.{event_at, HappenedAtEach}
use Rattle.ti_core.proofs.engine.Core.each.Given as goal

-- the events so far
abbrev pub invariant-loop-thread : goal.invariant-loop-thread
invariant-loop-thread l = record {
  count : length l.outcomes.items ≡ l.thread-index;
  room : length l.threads ≤ vec_capacity l.outcomes;
  happened : HappenedAtEach (event_at l.fn.env l.fn.asked) (take l.thread-index l.threads) l.fn.self l.self l.outcomes.items;
}
