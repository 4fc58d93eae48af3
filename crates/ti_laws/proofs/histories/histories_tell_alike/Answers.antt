use Rattle.ti_laws.proofs.ConcernLaws.{histories_tell_alike, calls_tell_alike}
use Rattle.ti_laws.proofs.histories.histories_tell_alike.Goals as goal

pub returns-clause-alike : goal.returns-clause-alike
returns-clause-alike c = histories_tell_alike

pub returns-clause-places : goal.returns-clause-places
returns-clause-places c = calls_tell_alike
