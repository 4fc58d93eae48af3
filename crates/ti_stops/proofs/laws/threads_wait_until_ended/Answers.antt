use Rattle.ti_stops.proofs.WaitLaws as laws
use Rattle.ti_stops.proofs.laws.threads_wait_until_ended.Goals as goal

pub returns : goal.returns
returns c = laws.waits_until_ended
