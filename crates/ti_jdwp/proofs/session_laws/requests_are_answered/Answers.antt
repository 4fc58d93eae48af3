use Rattle.ti_jdwp.proofs.Replying.{all_answered}
use Rattle.ti_jdwp.proofs.session_laws.requests_are_answered.Goals as goal

pub returns : goal.returns
returns c = all_answered
