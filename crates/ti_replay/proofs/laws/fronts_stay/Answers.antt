use Rattle.ti_replay.proofs.FrontLaws.{front_stays, front_stays_by_own}
use Rattle.ti_replay.proofs.laws.fronts_stay.Goals as goal

pub returns-clause-fronts : goal.returns-clause-fronts
returns-clause-fronts c = front_stays

pub returns-clause-own : goal.returns-clause-own
returns-clause-own c = front_stays_by_own
