use Rattle.std.proofs.Common.{sym, arith}
use Rattle.ti_vmop.proofs.Each.{not_paid}
use Rattle.ti_vmop.proofs.global_stops.are_paid_for.Goals as goal

pub returns-then-left-reads : goal.returns-then-left-reads
returns-then-left-reads c =
    sym (not_paid c.args.state.now c.args.threads.now c.loop-i.i (record { 0 = 0 }, 0) c.loop-i-test.true (omega (arith, c.left.ensures, c.if-left-reads.true)))
