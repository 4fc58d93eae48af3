use Rattle.std.proofs.Common.{codes, ◌++◌}
use Rattle.ti_monitor.specs.declared.prometheus_lines.Unit.TheVariants as unit
use Rattle.ti_monitor.specs.Exposition.{counter, head_lines, single, state_lines}
use Rattle.ti_monitor.specs.Texts.{seconds}
use Rattle.ti_monitor.proofs.TextLaws.{join}
use Rattle.ti_monitor.proofs.prometheus.push_times.Goals as goal

pub returns : goal.returns
returns c =
    let m = c.args.metrics.now in
    let head = head_lines (codes "thread_seconds_total") counter (codes "Time of threads in each state, by probes.") in
    let states = state_lines (codes "thread_seconds_total") unit.Nanos m.state_time in
    let suspended = single (codes "suspended_seconds_total") counter (codes "Time that threads were suspended, by probes.") (seconds m.suspended_time) in
    join _ _ _ _ head (states ++ suspended) c.in_ok-push_head.ensures
    (join _ _ _ _ states suspended c.in_ok-push_states.ensures c.push_single.ensures)
