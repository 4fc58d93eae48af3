use Rattle.ti_monitor.proofs.RunLaws.{samples_are_ticks}
use Rattle.ti_monitor.proofs.law.samples_are_ticks_at_threads.Goals as goal

pub returns : goal.returns
returns c = samples_are_ticks
