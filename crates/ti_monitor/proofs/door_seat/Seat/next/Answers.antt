use Rattle.ti_monitor.proofs.SeatLaws.{runs_more}
use Rattle.ti_monitor.proofs.ServeLaws.{served_with}
use Rattle.ti_monitor.proofs.door_seat.Seat.next.Goals as goal

pub returns-in_err-request-clause-run : goal.returns-in_err-request-clause-run
returns-in_err-request-clause-run c = runs_more _ _ _ c.settle.ensures.run c.step.ensures.run

pub returns-in-Ask-clause-run : goal.returns-in-Ask-clause-run
returns-in-Ask-clause-run c = runs_more _ _ _ (runs_more _ _ _ c.settle.ensures.run c.step.ensures.run) c.take_up.ensures.run

pub returns-in-Close-clause-run : goal.returns-in-Close-clause-run
returns-in-Close-clause-run c = runs_more _ _ _ c.settle.ensures.run c.step.ensures.run

pub returns-in_default-clause-run : goal.returns-in_default-clause-run
returns-in_default-clause-run c = runs_more _ _ _ c.settle.ensures.run c.step.ensures.run

pub returns-in_err-request-clause-serves : goal.returns-in_err-request-clause-serves
returns-in_err-request-clause-serves c =
    let n = c.args.moment.connections in
    served_with n c.args.self.now c.settle.new.self c.step.new.self c.args.desk.now c.settle.new.desk c.step.new.desk c.settle.ensures.desk (c.settle.ensures.serves n) (c.step.ensures.serves n)

pub returns-in-Ask-clause-serves : goal.returns-in-Ask-clause-serves
returns-in-Ask-clause-serves c =
    let n = c.args.moment.connections in
    served_with n c.args.self.now c.settle.new.self c.take_up.new.self c.args.desk.now c.settle.new.desk c.take_up.new.desk c.settle.ensures.desk (c.settle.ensures.serves n)
    (served_with n c.settle.new.self c.step.new.self c.take_up.new.self c.settle.new.desk c.step.new.desk c.take_up.new.desk c.step.ensures.desk (c.step.ensures.serves n) c.take_up.ensures.serves)

pub returns-in-Close-clause-serves : goal.returns-in-Close-clause-serves
returns-in-Close-clause-serves c =
    let n = c.args.moment.connections in
    served_with n c.args.self.now c.settle.new.self c.step.new.self c.args.desk.now c.settle.new.desk c.step.new.desk c.settle.ensures.desk (c.settle.ensures.serves n) (c.step.ensures.serves n)

pub returns-in_default-clause-serves : goal.returns-in_default-clause-serves
returns-in_default-clause-serves c =
    let n = c.args.moment.connections in
    served_with n c.args.self.now c.settle.new.self c.step.new.self c.args.desk.now c.settle.new.desk c.step.new.desk c.settle.ensures.desk (c.settle.ensures.serves n) (c.step.ensures.serves n)
