use Rattle.std.proofs.Common.{take}
use Rattle.ti_agent.specs.Traces.{AreCounts}
use Rattle.ti_agent.proofs.TimesLaws.{AreEnough}
use Rattle.ti_agent.proofs.thread_counts.count_each.Given as goal

-- those so far
abbrev pub invariant-loop-i : goal.invariant-loop-i
invariant-loop-i l = record {
  counts : AreCounts (take l.i l.threads) l.counts.entries;
  enough : AreEnough l.state (take l.i l.threads);
}
