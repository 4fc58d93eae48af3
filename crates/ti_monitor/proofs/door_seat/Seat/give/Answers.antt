use Rattle.std.proofs.Common.{◌/◌, refl, ap, ◌∙◌}
use Rattle.std.specs.Prelude.{map}
use Rattle.ti_http.specs.Runs.{Answered}
use Rattle.ti_monitor.specs.Desks.{books_of, setting_of}
use Rattle.ti_monitor.specs.Door.{counted}
use Rattle.ti_monitor.specs.Serving.{response}
use Rattle.ti_monitor.proofs.SeatLaws.{runs_one}
use Rattle.ti_monitor.proofs.ServeLaws.{answered_serves, postponed_serves}
use Rattle.ti_monitor.proofs.door_seat.Seat.give.Goals as goal

pub returns-in-Ok-clause-run : goal.returns-in-Ok-clause-run
returns-in-Ok-clause-run c = runs_one _ _ (Answered c.args.status c.args.content_type c.args.body.now (c.args.now / 1000000)) c.in-Ok.ensures.ok

pub returns-in-Ok-clause-serves : goal.returns-in-Ok-clause-serves
returns-in-Ok-clause-serves c = λ n b answer left.
    let d = c.args.desk.now in
    let rows = c.add.ensures ∙ ap (λ k. map (counted k) d.tally.rows) c.code.ensures in
    answered_serves (setting_of d n) c.args.self.now.connection c.answer.new.self b (books_of d) _ c.args.self.now.due _ c.args.status c.args.content_type c.args.body.now (c.args.now / 1000000)
    c.in-Ok.ensures.ok refl answer left (ap (λ r. record (books_of d) { rows = r }) rows)

pub returns-in-Err-clause-serves : goal.returns-in-Err-clause-serves
returns-in-Err-clause-serves c = λ n b answer left.
    let d = c.args.desk.now in
    postponed_serves (setting_of d n) c.args.self.now.connection c.answer.new.self b (books_of d) c.args.self.now.due _
    (response c.args.status c.args.content_type c.args.body.now) c.in-Err.ensures.err c.postponed-self.ensures.later answer left
