use Rattle.std.proofs.Common.{◌≡◌, true}
use Rattle.ti_vmop.specs.Turns.{are_paid}
use Rattle.ti_agent.specs.Traces.{all_once}
use Rattle.ti_agent.proofs.thread_counts.are_all_paid.Given as goal

-- those so far
abbrev pub invariant-loop-i : goal.invariant-loop-i
invariant-loop-i l = are_paid l.state (all_once l.i) ≡ true
