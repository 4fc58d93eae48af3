use Rattle.std.proofs.Common.{◌≡◌, true, length, take}
use Rattle.ti_agent.specs.Env.{places_of}
use Rattle.ti_agent.specs.Traces.{are_there}
use Rattle.ti_agent.proofs.env.Env.are_all_there.Given as goal

-- those so far
abbrev pub invariant-loop-i : goal.invariant-loop-i
invariant-loop-i g l = are_there (length l.self.env.state.spent) (places_of l.self.env.desks (take l.i l.threads)) ≡ true
