use Rattle.std.proofs.Common.{◌∙◌, ap, sym, subst}
use Rattle.ti_http.specs.Runs.{PeerEnded}
use Rattle.ti_monitor.specs.Doors.{AllRun, DoorValue}
use Rattle.ti_monitor.specs.Seats.{RunsTo}
use Rattle.ti_monitor.proofs.DoorLaws.{all_same, changed, kept_door, one_ran}
use Rattle.ti_monitor.proofs.SeatLaws.{runs_one}
use Rattle.ti_monitor.proofs.door.Door.make_room.Goals as goal

pub returns-then-is_any_leaving-clause-run : goal.returns-then-is_any_leaving-clause-run
returns-then-is_any_leaving-clause-run c = all_same c.args.self.now

pub returns-in_default-clause-run : goal.returns-in_default-clause-run
returns-in_default-clause-run c = all_same c.args.self.now

pub returns-in_default-take-clause-run : goal.returns-in_default-take-clause-run
returns-in_default-take-clause-run c =
    let same = kept_door c.self.inside.hosts c.self.inside.desk c.self.inside.seats.list.items c.take.new.self.list.items c.args.self.now c.in-Some.conn.0 c.self.view_is c.take.ensures.taken (c.take.ensures.was ∙ c.in_default-take.is) in
    subst (AllRun c.args.self.now) (sym same) (all_same c.args.self.now)

pub returns-clause-run : goal.returns-clause-run
returns-clause-run c =
    let seat = c.in-Some-take.seat in
    one_ran c.args.self.now _ c.in-Some.conn.0 RunsTo (λ t t' run. run)
    (changed RunsTo c.self.inside.hosts c.self.inside.desk c.self.inside.seats.list.items c.take.new.self.list.items c.put.new.self.list.items c.args.self.now c.in-Some.conn.0 seat c.leave.new.self c.self.view_is
    c.in-Some-take.ensures.was c.in-Some-take.ensures.taken c.put.ensures c.leave.ensures.due (runs_one seat.connection c.leave.new.self.connection PeerEnded c.leave.ensures.ended))

pub returns-in_default-take-clause-rest : goal.returns-in_default-take-clause-rest
returns-in_default-take-clause-rest c =
    let d = c.args.self.now in
    let same = kept_door c.self.inside.hosts c.self.inside.desk c.self.inside.seats.list.items c.take.new.self.list.items d c.in-Some.conn.0 c.self.view_is c.take.ensures.taken (c.take.ensures.was ∙ c.in_default-take.is) in
    same ∙ ap (λ (x : DoorValue). record d { talks = x.talks }) (sym same)

pub returns-clause-rest : goal.returns-clause-rest
returns-clause-rest c =
    let d = c.args.self.now in
    let seat = c.in-Some-take.seat in
    let done = changed RunsTo c.self.inside.hosts c.self.inside.desk c.self.inside.seats.list.items c.take.new.self.list.items c.put.new.self.list.items d c.in-Some.conn.0 seat c.leave.new.self c.self.view_is
    c.in-Some-take.ensures.was c.in-Some-take.ensures.taken c.put.ensures c.leave.ensures.due (runs_one seat.connection c.leave.new.self.connection PeerEnded c.leave.ensures.ended) in
    done.3 ∙ ap (λ (x : DoorValue). record d { talks = x.talks }) (sym done.3)
