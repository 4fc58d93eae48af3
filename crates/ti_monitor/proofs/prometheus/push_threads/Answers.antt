use Rattle.std.proofs.Common.{codes, decimal, ◌++◌}
use Rattle.ti_monitor.specs.declared.prometheus_lines.Unit.TheVariants as unit
use Rattle.ti_monitor.specs.Exposition.{gauge, head_lines, single, state_lines}
use Rattle.ti_monitor.proofs.TextLaws.{join}
use Rattle.ti_monitor.proofs.prometheus.push_threads.Goals as goal

pub returns : goal.returns
returns c =
    let m = c.args.metrics.now in
    let head = head_lines (codes "threads") gauge (codes "Threads that are there, by state.") in
    let states = state_lines (codes "threads") unit.Count m.threads in
    let suspended = single (codes "threads_suspended") gauge (codes "Threads that are suspended.") (decimal m.suspended) in
    join _ _ _ _ head (states ++ suspended) c.in_ok-push_head.ensures
    (join _ _ _ _ states suspended c.in_ok-push_states.ensures c.push_single.ensures)
