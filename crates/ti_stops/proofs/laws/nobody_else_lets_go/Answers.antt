use Rattle.ti_stops.proofs.Apart as apart
use Rattle.ti_stops.proofs.laws.nobody_else_lets_go.Goals as goal

pub returns : goal.returns
returns c = apart.nobody_else_lets_go
