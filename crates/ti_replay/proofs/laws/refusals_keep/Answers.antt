use Rattle.ti_replay.proofs.RefusedLaws as refused
use Rattle.ti_replay.proofs.laws.refusals_keep.Goals as goal

pub returns : goal.returns
returns c = refused.refusals_keep
