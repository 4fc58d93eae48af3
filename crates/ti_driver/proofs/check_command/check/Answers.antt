use Rattle.std.proofs.Common.{[], ap, sym, ◌∙◌, subst}
use Rattle.std.specs.Prelude.{is_none}
use Rattle.std.specs.Io.KnownBytes.{Appends}
use Rattle.ti_driver.specs.Runs.{verdict_text}
use Rattle.ti_driver.specs.Streams.{TakesFront}
use Rattle.ti_driver.proofs.VerdictLaws.{none_illegal, none_by_some}
use Rattle.ti_driver.proofs.check_command.check.Goals as goal

pub returns-in_err-put_verdict-clause-write : goal.returns-in_err-put_verdict-clause-write
returns-in_err-put_verdict-clause-write g c =
    let r = c.in_ok-verdict.ensures.ok in
    λ _. (r.0, r.1, subst (λ v. TakesFront (g.W.Write.contents c.args.writer.now) (g.W.Write.contents c.put_verdict.new.writer) (verdict_text v)) r.2 c.in_err-put_verdict.ensures.front)

pub returns-clause-ok : goal.returns-clause-ok
returns-clause-ok g c =
    let r = c.in_ok-verdict.ensures.ok in (
      r.0,
      r.1,
      none_by_some c.is_none.result c.in_ok-verdict.verdict (sym c.is_none.ensures) ∙ ap is_none r.2 ∙ none_illegal r.0.limits [] r.0.entries,
      subst (λ v. Appends (g.W.Write.contents c.args.writer.now) (g.W.Write.contents c.put_verdict.new.writer) (verdict_text v)) r.2 c.in_ok-put_verdict.ensures.ok,
    )
