use Rattle.ti_replay.proofs.TakeHoldLaws.{suspensions_take_hold, suspended_rest, suspended_traces_agree}
use Rattle.ti_replay.proofs.laws.suspensions_take_hold.Goals as goal

pub returns-clause-hold : goal.returns-clause-hold
returns-clause-hold c = suspensions_take_hold

pub returns-clause-rest : goal.returns-clause-rest
returns-clause-rest c = suspended_rest

pub returns-clause-traces : goal.returns-clause-traces
returns-clause-traces c = suspended_traces_agree
