use Rattle.std.proofs.Common.{codes, decimal, map, [], ◌++◌}
use Rattle.ti_monitor.specs.declared.prometheus_lines.Unit.TheVariants as unit
use Rattle.ti_monitor.specs.Exposition.{code_line, counter, gauge, head_lines, labelled, single}
use Rattle.ti_monitor.proofs.TextLaws.{join}
use Rattle.ti_monitor.proofs.prometheus.push_door.Goals as goal

pub returns : goal.returns
returns c =
    let head = head_lines (codes "http_requests_total") counter (codes "Requests that were answered, by status.") in
    let rows = map (code_line (labelled (codes "http_requests_total") [] (codes "code") unit.Count)) c.args.requests.now in
    let open_now = single (codes "http_connections") gauge (codes "Connections that are open.") (decimal c.args.connections) in
    join _ _ _ _ head (rows ++ open_now) c.in_ok-push_head.ensures (join _ _ _ _ rows open_now c.in_ok-push_codes.ensures c.push_single.ensures)
