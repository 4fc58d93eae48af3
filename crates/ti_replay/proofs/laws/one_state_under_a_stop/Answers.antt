use Rattle.ti_replay.proofs.StopLaws.{one_state}
use Rattle.ti_replay.proofs.laws.one_state_under_a_stop.Goals as goal

pub returns : goal.returns
returns c = one_state
