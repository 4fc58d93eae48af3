use Rattle.std.proofs.Common.{◌≡◌, ◌≤◌, length, take, drop, vec_capacity}
use Rattle.ti_agent.specs.Lists.{CollectsEach, AreOpen}
use Rattle.ti_agent.proofs.env.Env.collect_each.Given as goal

-- those so far, and those to come
abbrev pub invariant-loop-one : goal.invariant-loop-one
invariant-loop-one g l = record {
  count : length l.codes.items ≡ l.one-index;
  room : length l.posted ≤ vec_capacity l.codes;
  home : l.self.home ≡ l.fn.self.home;
  collects : CollectsEach l.fn.self.env l.self.env (take l.one-index l.posted) l.codes.items;
  out : AreOpen l.self.env (drop l.one-index l.posted);
}
