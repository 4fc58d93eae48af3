use Rattle.ti_replay.proofs.StepsStay.{steps_stay}
use Rattle.ti_replay.proofs.laws.logged_steps_stay_legal.Goals as goal

pub returns : goal.returns
returns c = steps_stay
