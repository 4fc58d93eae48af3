use Rattle.std.proofs.Common.{ap, refl, sym, ◌∙◌}
use Rattle.std.specs.Prelude.{is_some}
use Rattle.ti_http.specs.Runs.{PeerEnded}
use Rattle.ti_monitor.specs.Desks.{at_seat, books_of, setting_of}
use Rattle.ti_monitor.specs.Serving.{sitting}
use Rattle.ti_monitor.proofs.SeatLaws.{runs_more, runs_one}
use Rattle.ti_monitor.proofs.ServeLaws.{at_first, ended_serves, hurried_serves, serves_more}
use Rattle.ti_monitor.proofs.door_seat.Seat.end.Goals as goal

pub returns-in-Some-clause-run : goal.returns-in-Some-clause-run
returns-in-Some-clause-run c =
    runs_more c.args.self.now.connection c.end.new.self c.settle.new.self.connection (runs_one c.args.self.now.connection c.end.new.self PeerEnded c.end.ensures) c.settle.ensures.run

pub returns-in-Some-clause-serves : goal.returns-in-Some-clause-serves
returns-in-Some-clause-serves c = λ n.
    let d = c.args.desk.now in
    let d' = c.hurry.new.self in
    let w = setting_of d n in
    let u = c.args.self.now.due in
    let t = c.args.self.now.connection in
    let m = c.end.new.self in
    let profiled = ap is_some (sym c.profile.ensures ∙ c.in-Some.is) in
    let end = at_seat c.settle.new.self c.settle.new.desk in
    serves_more w (sitting t u (books_of d)) (sitting m u (books_of d)) end (ended_serves w t m (books_of d) (books_of d) u u c.end.ensures refl refl)
    (serves_more w (sitting m u (books_of d)) (sitting m u (books_of d')) end (hurried_serves w m (books_of d) (books_of d') u profiled c.hurry.ensures.books)
    (at_first d d' n (sitting m u (books_of d')) end c.hurry.ensures.keeps (c.settle.ensures.serves n)))

pub returns-in_default-clause-run : goal.returns-in_default-clause-run
returns-in_default-clause-run c = runs_one c.args.self.now.connection c.end.new.self PeerEnded c.end.ensures

pub returns-in_default-clause-serves : goal.returns-in_default-clause-serves
returns-in_default-clause-serves c = λ n.
    let d = c.args.desk.now in
    ended_serves (setting_of d n) c.args.self.now.connection c.end.new.self (books_of d) (books_of d) c.args.self.now.due c.args.self.now.due c.end.ensures refl refl
