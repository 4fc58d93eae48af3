use Rattle.ti_service.specs.Stops.BreaksNot.{Refused}
use Rattle.ti_service.proofs.agent_stops.set_or_clear.Goals as goal

pub returns-in-Err-clause-refused : goal.returns-in-Err-clause-refused
returns-in-Err-clause-refused c = Refused c.check_place.new.agent c.in_ok-check_place.ensures.sees c.in_ok-check_place.ensures.place c.in-Err.ensures.refused
