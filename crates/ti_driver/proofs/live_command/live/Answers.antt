use Rattle.std.proofs.Common.{◌≢◌}
use Rattle.std.proofs.lemmas.Result.{on_ok_weaker, IfErr-weaker}
use Rattle.ti_driver.specs.declared.fault.Fault.TheVariants.{Write as NotWritten}
use Rattle.ti_driver.specs.Reports.{IsRunFault, IsLiveFault}
use Rattle.ti_driver.proofs.ReportLaws.{live_fault_of}
use Rattle.ti_driver.proofs.live_command.live.Goals as goal

pub returns-clause-ok : goal.returns-clause-ok
returns-clause-ok g c = on_ok_weaker c.write_live.result (λ p. (c.in_ok-live.live, p.0, c.in_ok-live.ensures.ok, p.1, p.2)) c.write_live.ensures.ok

pub returns-clause-write : goal.returns-clause-write
returns-clause-write g c = λ e. let p = c.write_live.ensures.front e in (c.in_ok-live.live, p.0, c.in_ok-live.ensures.ok, p.1, p.2)

pub returns-clause-fault : goal.returns-clause-fault
returns-clause-fault g c =
    let known = g.R.Read.remaining c.args.reader.now in
    IfErr-weaker c.write_live.result (λ e. e ≢ NotWritten → IsRunFault e) (λ e. e ≢ NotWritten → IsLiveFault known e)
    (λ e fault no. live_fault_of known c.in_ok-live.live e c.in_ok-live.ensures.ok (fault no)) c.write_live.ensures.fault
