use Rattle.ti_replay.proofs.SuspensionLaws.{suspensions_stay}
use Rattle.ti_replay.proofs.laws.suspended_threads_stand_still.Goals as goal

pub returns : goal.returns
returns c = suspensions_stay
