use Rattle.std.proofs.Common.{sym, subst}
use Rattle.std.proofs.lemmas.Result.{on_ok_weaker}
use Rattle.std.specs.Io.KnownBytes.{Appends}
use Rattle.ti_driver.specs.Streams.{TakesFront}
use Rattle.ti_driver.proofs.ReportLaws.{report_sound}
use Rattle.ti_driver.proofs.live_command.write_live.Goals as goal

pub returns-clause-ok : goal.returns-clause-ok
returns-clause-ok g c =
    let report = c.in_ok-report.report in
    let is = c.in_ok-report.ensures.ok in
    let old = g.W.Write.contents c.args.writer.now in
    let new = g.W.Write.contents c.write_report.new.writer in
    on_ok_weaker c.write_report.result (λ p. (report, is, subst (λ text. Appends old new text) (sym (report_sound c.args.live report is)) p)) c.write_report.ensures.ok

pub returns-clause-front : goal.returns-clause-front
returns-clause-front g c = λ e.
    let report = c.in_ok-report.report in
    let is = c.in_ok-report.ensures.ok in
    let old = g.W.Write.contents c.args.writer.now in
    let new = g.W.Write.contents c.write_report.new.writer in
    (report, is, subst (λ text. TakesFront old new text) (sym (report_sound c.args.live report is)) (c.write_report.ensures.front e))
