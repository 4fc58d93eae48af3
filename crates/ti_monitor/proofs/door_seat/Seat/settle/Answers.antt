use Rattle.ti_monitor.proofs.SeatLaws.{runs_more}
use Rattle.ti_monitor.proofs.ServeLaws.{served_more}
use Rattle.ti_monitor.proofs.door_seat.Seat.settle.Goals as goal

pub returns-clause-run : goal.returns-clause-run
returns-clause-run c = runs_more _ _ _ c.settle_reading.ensures.run c.settle_later.ensures.run

pub returns-clause-serves : goal.returns-clause-serves
returns-clause-serves c =
    served_more c.args.self.now c.settle_reading.new.self c.settle_later.new.self c.args.desk.now c.settle_reading.new.desk c.settle_later.new.desk c.settle_reading.ensures.desk
    c.settle_reading.ensures.serves c.settle_later.ensures.serves
