use Rattle.ti_replay.proofs.MakerLaws.{mode_is_own, own_spent_is_own}
use Rattle.ti_replay.proofs.laws.own_entries_say_the_mode.Goals as goal

pub returns-clause-mode : goal.returns-clause-mode
returns-clause-mode c = mode_is_own

pub returns-clause-costs : goal.returns-clause-costs
returns-clause-costs c = own_spent_is_own
