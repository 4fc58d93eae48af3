use Rattle.ti_jdwp.proofs.Evening.{nothing_stays}
use Rattle.ti_jdwp.proofs.session_laws.nothing_stays_suspended.Goals as goal

pub returns : goal.returns
returns c = nothing_stays
