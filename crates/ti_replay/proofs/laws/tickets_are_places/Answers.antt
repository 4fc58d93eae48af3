use Rattle.ti_replay.proofs.PlaceTickets.{reply_by_ticket}
use Rattle.ti_replay.proofs.laws.tickets_are_places.Goals as goal

pub returns : goal.returns
returns c = reply_by_ticket
