use Rattle.std.proofs.Common.{codes, decimal, ◌++◌}
use Rattle.ti_monitor.specs.Exposition.{counter, single}
use Rattle.ti_monitor.proofs.TextLaws.{join}
use Rattle.ti_monitor.proofs.prometheus.push_lives.Goals as goal

pub returns : goal.returns
returns c =
    let m = c.args.metrics.now in
    let one = single (codes "threads_attached_total") counter (codes "Threads that were attached.") (decimal m.attached) in
    let two = single (codes "threads_detached_total") counter (codes "Threads that were given back.") (decimal m.detached) in
    let three = single (codes "thread_events_lost_total") counter (codes "Thread events that were overwritten before they were read.") (decimal m.events_lost) in
    let four = single (codes "handovers_total") counter (codes "Times that threads handed over, in native code, blocked or at a poll.") (decimal m.hand_overs) in
    join _ _ _ _ one (two ++ (three ++ four)) c.in_ok-push_single.ensures (join _ _ _ _ two (three ++ four) c.in_ok-push_single-2.ensures (join _ _ _ _ three four c.in_ok-push_single-3.ensures c.push_single-4.ensures))
