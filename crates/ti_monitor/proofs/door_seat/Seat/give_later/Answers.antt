use Rattle.ti_monitor.specs.Desks.{books_of, setting_of}
use Rattle.ti_monitor.proofs.ServeLaws.{later_answer, later_leaves}
use Rattle.ti_monitor.proofs.door_seat.Seat.give_later.Goals as goal

pub returns-clause-serves : goal.returns-clause-serves
returns-clause-serves c = λ n.
    let d = c.args.desk.now in
    let u = c.args.self.now.due in
    c.give.ensures.serves n (books_of d) (later_answer (setting_of d n) (books_of d) u c.args.seconds c.requires.due) (later_leaves (books_of d) u c.args.seconds c.requires.due)
