use Rattle.ti_core.proofs.OfRunLaws.{runs_tell_one_state}
use Rattle.ti_core.proofs.laws.runs_tell_one_state.Goals as goal

pub returns : goal.returns
returns c = runs_tell_one_state
