use Rattle.std.proofs.Common.{codes, decimal}
use Rattle.ti_monitor.specs.Exposition.{gauge, single}
use Rattle.ti_monitor.specs.Texts.{seconds}
use Rattle.ti_monitor.proofs.TextLaws.{join}
use Rattle.ti_monitor.proofs.prometheus.push_calls.Goals as goal

pub returns : goal.returns
returns c =
    let m = c.args.metrics.now in
    let one = single (codes "calls_out") gauge (codes "Calls that were posted and not collected.") (decimal m.calls_out) in
    let two = single (codes "oldest_call_seconds") gauge (codes "Age of the oldest call that has no answer, 0 if there is none.") (seconds m.oldest_call) in
    join _ _ _ _ one two c.in_ok-push_single.ensures c.push_single-2.ensures
