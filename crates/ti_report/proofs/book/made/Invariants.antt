use Rattle.std.proofs.Common.{◌≡◌, length}
use Rattle.ti_report.proofs.book.made.Given as goal

abbrev pub invariant-loop-at : goal.invariant-loop-at
invariant-loop-at l = record {
  agents : length l.counts.items ≡ l.fn.limits.envs;
}
