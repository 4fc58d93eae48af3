use Rattle.ti_laws.proofs.OwnCallLaws as laws
use Rattle.ti_laws.proofs.stops.own_calls_are_seen.Goals as goal

pub returns : goal.returns
returns c = laws.own_calls_are_seen
