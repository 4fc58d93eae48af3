use Rattle.std.proofs.Common.{◌∙◌, inr, sym, subst}
use Rattle.ti_monitor.specs.Doors.{AllRun}
use Rattle.ti_monitor.specs.Seats.{RunsTo, Says}
use Rattle.ti_monitor.proofs.DoorLaws.{all_same, kept_door, no_memory, on_err, one_went, served, serves_nobody, talk_is, went_on}
use Rattle.ti_monitor.proofs.door.Door.next.Goals as goal

pub returns-clause-told : goal.returns-clause-told
returns-clause-told c =
    went_on (λ t t'. RunsTo t t' × Says t' c.in_ok-todo.field-0) c.self.inside.hosts c.self.inside.desk c.next-todo.new.desk c.self.inside.seats.list.items c.take.new.self.list.items c.put.new.self.list.items c.args.self.now c.args.conn.0 c.in-Some.seat c.next-todo.new.self c.self.view_is
    c.in-Some.ensures.was c.in-Some.ensures.taken c.put.ensures c.next-todo.ensures.desk (c.next-todo.ensures.run, c.in_ok-todo.ensures.says)

pub returns-in_default-clause-run : goal.returns-in_default-clause-run
returns-in_default-clause-run c =
    let same = kept_door c.self.inside.hosts c.self.inside.desk c.self.inside.seats.list.items c.take.new.self.list.items c.args.self.now c.args.conn.0 c.self.view_is c.take.ensures.taken (c.take.ensures.was ∙ c.in_default.is) in
    subst (AllRun c.args.self.now) (sym same) (all_same c.args.self.now)

pub returns-in_err-todo-clause-refused : goal.returns-in_err-todo-clause-refused
returns-in_err-todo-clause-refused c =
    no_memory c.from_residual.result _ c.in-Some.seat.connection
    (talk_is c.self.inside.hosts c.self.inside.desk c.self.inside.seats.list.items c.args.self.now c.args.conn.0 _ c.self.view_is c.in-Some.ensures.was) c.from_residual.ensures.1

pub returns-in_err-todo-clause-run : goal.returns-in_err-todo-clause-run
returns-in_err-todo-clause-run c =
    on_err c.from_residual.result
    (one_went c.args.self.now _ c.args.conn.0 RunsTo (λ t t' run. run)
    (went_on RunsTo c.self.inside.hosts c.self.inside.desk c.next-todo.new.desk c.self.inside.seats.list.items c.take.new.self.list.items c.put.new.self.list.items c.args.self.now c.args.conn.0 c.in-Some.seat c.next-todo.new.self c.self.view_is
    c.in-Some.ensures.was c.in-Some.ensures.taken c.put.ensures c.next-todo.ensures.desk c.next-todo.ensures.run))

pub returns-clause-serves : goal.returns-clause-serves
returns-clause-serves c =
    inr (served c.self.inside.hosts c.self.inside.desk c.next-todo.new.desk c.self.inside.seats.list.items c.take.new.self.list.items c.put.new.self.list.items c.args.self.now c.args.conn.0 _ c.in-Some.seat c.next-todo.new.self c.self.view_is c.count.ensures
    c.in-Some.ensures.was c.in-Some.ensures.taken c.put.ensures c.next-todo.ensures.desk c.next-todo.ensures.serves)

pub returns-in_err-todo-clause-serves : goal.returns-in_err-todo-clause-serves
returns-in_err-todo-clause-serves c =
    inr (served c.self.inside.hosts c.self.inside.desk c.next-todo.new.desk c.self.inside.seats.list.items c.take.new.self.list.items c.put.new.self.list.items c.args.self.now c.args.conn.0 _ c.in-Some.seat c.next-todo.new.self c.self.view_is c.count.ensures
    c.in-Some.ensures.was c.in-Some.ensures.taken c.put.ensures c.next-todo.ensures.desk c.next-todo.ensures.serves)

pub returns-in_default-clause-serves : goal.returns-in_default-clause-serves
returns-in_default-clause-serves c =
    let seats = c.self.inside.seats.list.items in
    let none = c.take.ensures.was ∙ c.in_default.is in
    serves_nobody c.args.self.now _ c.args.conn.0 (talk_is c.self.inside.hosts c.self.inside.desk seats c.args.self.now c.args.conn.0 _ c.self.view_is none)
    (kept_door c.self.inside.hosts c.self.inside.desk seats c.take.new.self.list.items c.args.self.now c.args.conn.0 c.self.view_is c.take.ensures.taken none)
