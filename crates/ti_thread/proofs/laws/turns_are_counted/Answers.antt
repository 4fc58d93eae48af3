use Rattle.ti_thread.proofs.CountedLaws.{new_counted, turns_counted}
use Rattle.ti_thread.proofs.laws.turns_are_counted.Goals as goal

pub returns-clause-new : goal.returns-clause-new
returns-clause-new c = new_counted

pub returns-clause-turns : goal.returns-clause-turns
returns-clause-turns c = turns_counted
