use Rattle.std.proofs.Common.{◌∙◌, ◌++◌, ap}
use Rattle.ti_monitor.specs.Exposition.{metrics_lines}
use Rattle.ti_monitor.specs.Texts.{text_of}
use Rattle.ti_monitor.proofs.door_desk.Desk.metrics.Goals as goal

pub returns : goal.returns
returns c =
    c.in_ok-metrics_text.ensures
    ∙ ap (λ o. o ++ text_of (metrics_lines c.as_str.result.now c.metrics.result.now c.rows.result.now c.args.connections)) c.new-out.ensures.items
    ∙ (λ j. text_of (metrics_lines (c.as_str.ensures.value j) (c.metrics.ensures j) (c.rows.ensures j) c.args.connections))
