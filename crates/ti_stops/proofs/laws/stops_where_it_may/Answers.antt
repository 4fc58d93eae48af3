use Rattle.ti_stops.proofs.MayLaws as may
use Rattle.ti_stops.proofs.laws.stops_where_it_may.Goals as goal

pub returns : goal.returns
returns c = may.stops_where_it_may
