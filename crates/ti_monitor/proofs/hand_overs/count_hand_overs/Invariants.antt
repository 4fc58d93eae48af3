use Rattle.std.specs.Prelude.{◌≡◌, ◌≤◌}
use Rattle.ti_monitor.proofs.hand_overs.count_hand_overs.Given as goal

abbrev pub invariant-loop-place : goal.invariant-loop-place
invariant-loop-place l = record {
  grows : l.fn.metrics.hand_overs ≤ l.metrics.hand_overs;
  rest : l.metrics ≡ record l.fn.metrics { hand_overs = l.metrics.hand_overs };
}
