use Rattle.ti_laws.proofs.StopShareLaws as laws
use Rattle.ti_laws.proofs.stops.stops_are_own.Goals as goal

pub returns-clause-share : goal.returns-clause-share
returns-clause-share c = laws.stops_follow_items

pub returns-clause-replies : goal.returns-clause-replies
returns-clause-replies c = laws.stop_replies_agree
