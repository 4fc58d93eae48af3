use Rattle.ti_replay.proofs.LateTicketLaws.{steps_late}
use Rattle.ti_replay.proofs.laws.steps_come_late.Goals as goal

pub returns : goal.returns
returns c = steps_late
