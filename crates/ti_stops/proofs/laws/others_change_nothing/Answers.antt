use Rattle.ti_stops.proofs.Apart as apart
use Rattle.ti_stops.proofs.laws.others_change_nothing.Goals as goal

pub returns : goal.returns
returns c = apart.others_change_nothing
