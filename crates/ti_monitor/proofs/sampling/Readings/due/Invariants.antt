use Rattle.ti_monitor.proofs.DeadlineLaws.{IsNextFirst}
use Rattle.ti_monitor.proofs.sampling.Readings.due.Given as goal

abbrev pub invariant-loop-reading : goal.invariant-loop-reading
invariant-loop-reading l = IsNextFirst l.reading-index l.self.running.items l.due
