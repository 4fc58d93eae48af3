use Rattle.ti_jdwp.proofs.Letting as letting
use Rattle.ti_jdwp.proofs.session_laws.stops_are_let_go.Goals as goal

pub returns : goal.returns
returns c = letting.stops_are_let_go
