use Rattle.std.proofs.Common.{◌≢◌, rules, refl, sym, subst}
use Rattle.ti_driver.specs.declared.fault.Fault.TheVariants.{Write as NotWritten}
use Rattle.ti_driver.specs.Reports.{IsLiveFault}
use Rattle.ti_script.proofs.LiveLaws.{err_is}
use Rattle.ti_driver.proofs.commands.carry_out.Goals as goal

pub returns-in_ok-walk-in-Walk-clause-ok : goal.returns-in_ok-walk-in-Walk-clause-ok
returns-in_ok-walk-in-Walk-clause-ok g c =
    let p = c.in_ok-walk-in-Walk.ensures.ok in
    rw c.in-Walk.is (refl, p.0, p.1, p.2, p.3, p.4)

pub returns-in_ok-live-in-Live-clause-ok : goal.returns-in_ok-live-in-Live-clause-ok
returns-in_ok-live-in-Live-clause-ok g c =
    let p = c.in_ok-live-in-Live.ensures.ok in
    rw c.in-Live.is (refl, p.0, p.1, p.2, p.3, p.4)

pub returns-in_err-walk-in-Walk-clause-fault : goal.returns-in_err-walk-in-Walk-clause-fault
returns-in_err-walk-in-Walk-clause-fault g c = rw c.in-Walk.is (search rules)

pub returns-in-Check-clause-fault : goal.returns-in-Check-clause-fault
returns-in-Check-clause-fault g c = rw c.in-Check.is c.check.ensures.fault

pub returns-in_err-live-in-Live-clause-fault : goal.returns-in_err-live-in-Live-clause-fault
returns-in_err-live-in-Live-clause-fault g c =
    let known = g.R.Read.remaining c.args.reader.now in
    rw c.in-Live.is
    (err_is c.from_residual-in_err-live-in-Live.result (λ e. e ≢ NotWritten → IsLiveFault known e) c.from_residual-in_err-live-in-Live.ensures.1
    (λ e is. subst (λ x. x ≢ NotWritten → IsLiveFault known x) (sym is) c.in_err-live-in-Live.ensures.fault))
