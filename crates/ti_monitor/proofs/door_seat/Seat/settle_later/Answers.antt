use Rattle.std.proofs.Common.{[], refl}
use Rattle.ti_monitor.proofs.door_seat.Seat.settle_later.Goals as goal

pub returns-in-Some-Later-clause-serves : goal.returns-in-Some-Later-clause-serves
returns-in-Some-Later-clause-serves c = c.give_later.ensures.serves

pub returns-clause-serves : goal.returns-clause-serves
returns-clause-serves c = λ n. ([], refl)

pub returns-2-clause-serves : goal.returns-2-clause-serves
returns-2-clause-serves c = λ n. ([], refl)
