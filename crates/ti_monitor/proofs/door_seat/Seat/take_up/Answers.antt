use Rattle.ti_monitor.proofs.SeatLaws.{runs_more}
use Rattle.ti_monitor.proofs.ServeLaws.{served_with}
use Rattle.ti_monitor.proofs.door_seat.Seat.take_up.Goals as goal

pub returns-clause-run : goal.returns-clause-run
returns-clause-run c = runs_more _ _ _ c.answer_or_begin.ensures.run c.settle.ensures.run

pub returns-clause-serves : goal.returns-clause-serves
returns-clause-serves c =
    served_with c.args.moment.connections c.args.self.now c.answer_or_begin.new.self c.settle.new.self c.args.desk.now c.answer_or_begin.new.desk c.settle.new.desk c.answer_or_begin.ensures.desk
    c.answer_or_begin.ensures.serves (c.settle.ensures.serves c.args.moment.connections)
