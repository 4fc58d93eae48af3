use Rattle.ti_core.proofs.OfRunLaws.{words_are_told}
use Rattle.ti_core.proofs.laws.words_are_told.Goals as goal

pub returns : goal.returns
returns c = words_are_told
