use Rattle.std.proofs.Common.{[], refl}
use Rattle.ti_monitor.proofs.door_seat.Seat.settle_reading.Goals as goal

pub returns-then-has_ended-clause-serves : goal.returns-then-has_ended-clause-serves
returns-then-has_ended-clause-serves c = c.give_reading.ensures.serves

pub returns-else-has_ended-clause-serves : goal.returns-else-has_ended-clause-serves
returns-else-has_ended-clause-serves c = λ n. ([], refl)

pub returns-clause-serves : goal.returns-clause-serves
returns-clause-serves c = λ n. ([], refl)

pub returns-2-clause-serves : goal.returns-2-clause-serves
returns-2-clause-serves c = λ n. ([], refl)
