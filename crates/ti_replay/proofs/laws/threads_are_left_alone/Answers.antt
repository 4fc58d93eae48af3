use Rattle.ti_replay.proofs.AloneLaws.{left_alone}
use Rattle.ti_replay.proofs.laws.threads_are_left_alone.Goals as goal

pub returns : goal.returns
returns c = left_alone
