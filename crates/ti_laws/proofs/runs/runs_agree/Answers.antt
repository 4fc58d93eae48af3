use Rattle.ti_laws.proofs.RunLaws as laws
use Rattle.ti_laws.proofs.runs.runs_agree.Goals as goal

pub returns : goal.returns
returns c = laws.runs_agree
