use Rattle.ti_frames.proofs.ChangeLaws.{steps_lead}
use Rattle.ti_frames.proofs.changes.steps_lead_between.Goals as goal

pub returns : goal.returns
returns c = steps_lead
