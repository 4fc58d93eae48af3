use Rattle.std.proofs.Common.{[], arith}
use Rattle.ti_vmop.proofs.Each.{each_none, each_more, each_all, adds, stood_more, stood_all, stands_now}
use Rattle.ti_vmop.proofs.global_stops.await_each.Goals as goal

pub loop-i-init : goal.loop-i-init
loop-i-init g c = (each_none c.args.desks.now (λ e. []), λ i p e listed. cc listed)

pub loop-i-preserved : goal.loop-i-preserved
loop-i-preserved g c = (
  each_more c.args.threads.now c.loop-i.i _ c.args.desks.now c.loop-i.desks (λ e. []) (record { 0 = 0 }, 0) c.index-desks-thread.result c.await_one.new.desk c.requires.distinct c.requires.there c.loop-i-test.true (omega arith) c.loop-i.invariant.0
      (adds _ _ _ c.await_one.ensures.same c.await_one.ensures.hold),
  stood_more c.args.threads.now c.loop-i.i _ c.loop-i.desks (record { 0 = 0 }, 0) c.await_one.new.desk c.index-desks-thread.result c.loop-i-test.true (omega arith) c.loop-i.invariant.1
      (stands_now _ _ c.await_one.ensures.same c.await_one.ensures.hold c.await_one.ensures.stands),
)

pub returns-clause-desks : goal.returns-clause-desks
returns-clause-desks g c = each_all c.args.threads.now c.loop-i.i c.args.desks.now c.loop-i.desks (λ e. []) (omega (arith, c.loop-i-test.false)) c.loop-i.invariant.0

pub returns-clause-stand : goal.returns-clause-stand
returns-clause-stand g c = stood_all c.args.threads.now c.loop-i.i c.loop-i.desks (omega (arith, c.loop-i-test.false)) c.loop-i.invariant.1
