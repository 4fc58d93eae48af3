use Rattle.ti_jdwp.proofs.Queueing.{all_told_well}
use Rattle.ti_jdwp.proofs.event_laws.events_are_told_well.Goals as goal

pub returns : goal.returns
returns c = all_told_well
