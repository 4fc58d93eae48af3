use Rattle.ti_replay.proofs.SuspensionLaws.{traces_agree}
use Rattle.ti_replay.proofs.laws.traces_agree.Goals as goal

pub returns : goal.returns
returns c = traces_agree
