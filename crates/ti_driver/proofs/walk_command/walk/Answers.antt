use Rattle.std.proofs.Common.{◌≡◌, ◌≢◌, sym, subst}
use Rattle.std.proofs.lemmas.Result.{on_ok_weaker, IfErr-weaker}
use Rattle.ti_script.specs.Walks.{walk_fault}
use Rattle.ti_driver.specs.declared.fault.Fault.TheVariants.{Memory, Write as NotWritten}
use Rattle.ti_driver.specs.Runs.{IsEarlyFault}
use Rattle.ti_driver.proofs.walk_command.walk.Goals as goal

pub returns-clause-ok : goal.returns-clause-ok
returns-clause-ok g c = on_ok_weaker c.write_walk.result (λ p. (c.in_ok-walk.walk, p.0, c.in_ok-walk.ensures.ok, p.1, p.2)) c.write_walk.ensures.ok

pub returns-clause-write : goal.returns-clause-write
returns-clause-write g c = λ e. let p = c.write_walk.ensures.front e in (c.in_ok-walk.walk, p.0, c.in_ok-walk.ensures.ok, p.1, p.2)

pub returns-clause-fault : goal.returns-clause-fault
returns-clause-fault g c =
    let known = g.R.Read.remaining c.args.reader.now in
    IfErr-weaker c.write_walk.result (λ e. e ≢ NotWritten → e ≡ Memory) (λ e. e ≢ NotWritten → IsEarlyFault walk_fault known e)
    (λ e memory no. subst (IsEarlyFault walk_fault known) (sym (memory no)) tt) c.write_walk.ensures.fault
