use Rattle.ti_replay.proofs.MakerLaws.{calls_spent_are_its_own, asked_is_its_own}
use Rattle.ti_replay.proofs.laws.environments_count_apart.Goals as goal

pub returns-clause-costs : goal.returns-clause-costs
returns-clause-costs c = calls_spent_are_its_own

pub returns-clause-numbers : goal.returns-clause-numbers
returns-clause-numbers c = asked_is_its_own
