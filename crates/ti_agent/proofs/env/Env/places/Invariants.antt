use Rattle.std.proofs.Common.{◌≡◌, ◌≤◌, length, take, vec_capacity}
use Rattle.ti_agent.specs.Env.{places_of}
use Rattle.ti_agent.proofs.env.Env.places.Given as goal

-- those so far
abbrev pub invariant-loop-i : goal.invariant-loop-i
invariant-loop-i g l = record {
  room : length l.threads ≤ vec_capacity l.places;
  all : l.places.items ≡ places_of l.self.env.desks (take l.i l.threads);
}
