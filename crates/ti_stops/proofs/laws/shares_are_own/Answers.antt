use Rattle.ti_stops.proofs.ShareLaws as laws
use Rattle.ti_stops.proofs.laws.shares_are_own.Goals as goal

pub returns-clause-shares : goal.returns-clause-shares
returns-clause-shares c = laws.shares_are_own

pub returns-clause-answers : goal.returns-clause-answers
returns-clause-answers c = laws.shares_answer

pub returns-clause-agree : goal.returns-clause-agree
returns-clause-agree c = laws.stops_agree
