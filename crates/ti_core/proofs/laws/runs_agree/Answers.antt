use Rattle.ti_core.proofs.OfRunLaws.{runs_agree}
use Rattle.ti_core.proofs.laws.runs_agree.Goals as goal

pub returns : goal.returns
returns c = runs_agree
