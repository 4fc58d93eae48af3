use Rattle.ti_core.proofs.OfRunLaws.{refusals_keep_in_runs}
use Rattle.ti_core.proofs.laws.refusals_keep.Goals as goal

pub returns : goal.returns
returns c = refusals_keep_in_runs
