use Rattle.ti_report.proofs.EventLaws.{counted_next}
use Rattle.ti_report.proofs.events.counted.Goals as goal

pub loop-n-preserved : goal.loop-n-preserved
loop-n-preserved c =
    let n = c.loop-n.n in
    let most = c.args.limits.threads in
    counted_next c.args.counts.now c.loop-n.listed.items c.push_counted.new.listed.items n most _ c.loop-n-test.true c.in_ok-push_counted.ensures c.loop-n.invariant
