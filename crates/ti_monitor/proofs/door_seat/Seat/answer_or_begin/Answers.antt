use Rattle.std.proofs.Common.{◌≡◌, [], ap, refl, ◌∙◌}
use Rattle.ti_http.specs.declared.answers.ContentType.TheVariants as content
use Rattle.ti_http.specs.declared.status.Status.TheVariants as status
use Rattle.ti_http.specs.declared.target.Target.TheVariants as target
use Rattle.ti_monitor.specs.Desks.{books_of, setting_of}
use Rattle.ti_monitor.specs.Door.{content_of}
use Rattle.ti_monitor.specs.Serving.{index_text, response}
use Rattle.ti_monitor.proofs.ServeLaws.{at_once, begun_serves, fresh_leaves}
use Rattle.ti_monitor.proofs.door_seat.Seat.answer_or_begin.Goals as goal

pub returns-in-Index-clause-serves : goal.returns-in-Index-clause-serves
returns-in-Index-clause-serves c =
    let d = c.args.desk.now in
    let n = c.args.moment.connections in
    let u = c.args.self.now.due in
    let kind : c.content_type-kind.result ≡ content.Text = c.content_type-kind.ensures ∙ ap content_of c.in-Index.is in
    c.give.ensures.serves n (books_of d)
    (at_once (setting_of d n) (books_of d) u c.args.request target.Index _ c.requires.due c.in-Index.is (ap (λ k. response status.Ok k index_text) kind))
    (fresh_leaves (books_of d) u c.args.request c.requires.due)

pub returns-in_default-2 : goal.returns-in_default-2
returns-in_default-2 c =
    let d = c.args.desk.now in
    let n = c.args.moment.connections in
    let s = c.args.self.now in
    record {
      run = ([], refl);
      serves = begun_serves (setting_of d n) s.connection (books_of d) (books_of c.begin.new.self) s.due c.args.request c.begin.result c.requires.due c.begin.ensures.starts;
      stays = refl;
      desk = c.begin.ensures.keeps;
    }
