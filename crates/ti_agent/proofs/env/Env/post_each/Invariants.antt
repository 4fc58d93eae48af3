use Rattle.std.proofs.Common.{◌≡◌, ◌≤◌, length, take, vec_capacity}
use Rattle.ti_agent.specs.Lists.{PostsEach, AreOpen}
use Rattle.ti_agent.proofs.env.Env.post_each.Given as goal

-- the threads so far
abbrev pub invariant-loop-thread : goal.invariant-loop-thread
invariant-loop-thread g l = record {
  count : length l.posted.items ≡ l.thread-index;
  room : length l.threads ≤ vec_capacity l.posted;
  home : l.self.home ≡ l.fn.self.home;
  posts : PostsEach l.fn.self.env l.self.env l.fn.call (take l.thread-index l.threads) l.posted.items;
  out : AreOpen l.self.env l.posted.items;
}
