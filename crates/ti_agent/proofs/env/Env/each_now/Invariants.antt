use Rattle.std.proofs.Common.{◌≡◌, ◌≤◌, length, take, vec_capacity}
use Rattle.ti_agent.specs.ListTries.{TriesEach}
use Rattle.ti_agent.proofs.env.Env.each_now.Given as goal

-- the threads so far
abbrev pub invariant-loop-thread : goal.invariant-loop-thread
invariant-loop-thread g l = record {
  count : length l.tried.items ≡ l.thread-index;
  room : length l.threads ≤ vec_capacity l.tried;
  home : l.self.home ≡ l.fn.self.home;
  tries : TriesEach l.fn.self.env l.self.env l.fn.call (take l.thread-index l.threads) l.tried.items;
}
