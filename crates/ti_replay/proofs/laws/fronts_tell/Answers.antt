use Rattle.ti_replay.proofs.FrontLaws as front_laws
use Rattle.ti_replay.proofs.laws.fronts_tell.Goals as goal

pub returns : goal.returns
returns c = front_laws.fronts_tell
