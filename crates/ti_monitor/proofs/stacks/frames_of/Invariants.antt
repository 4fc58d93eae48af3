use Rattle.std.specs.Prelude.{◌≡◌, ◌≤◌, ◌++◌, length}
use Rattle.ti_pprof.specs.Stacks.{stack_at, stacks_of}
use Rattle.ti_monitor.proofs.stacks.frames_of.Given as goal

abbrev pub invariant-loop-number : goal.invariant-loop-number
invariant-loop-number l = record {
  there : l.number ≤ length l.nodes;
  rest : l.frames.items ++ stack_at (stacks_of l.nodes) l.number ≡ stack_at (stacks_of l.nodes) l.stack;
}

abbrev pub decreases-loop-number : goal.decreases-loop-number
decreases-loop-number l = l.number
