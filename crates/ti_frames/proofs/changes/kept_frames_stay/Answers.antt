use Rattle.ti_frames.proofs.ChangeLaws.{keeping_leads}
use Rattle.ti_frames.proofs.changes.kept_frames_stay.Goals as goal

pub returns : goal.returns
returns c = keeping_leads
