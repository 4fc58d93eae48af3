use Rattle.ti_jdwp.proofs.Gating as gating
use Rattle.ti_jdwp.proofs.session_laws.no_event_while_stopped.Goals as goal

pub returns : goal.returns
returns c = gating.no_event_while_stopped
